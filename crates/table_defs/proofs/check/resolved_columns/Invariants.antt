-- The columns so far are resolved, and each has a type.
use Rattle.std.proofs.Common.{◌≡◌, take, map, true, is_some}
use Rattle.std.specs.List.{list_all}
use Rattle.table_defs.specs.Declarations.{resolved_column, type_of}
use Rattle.table_defs.proofs.check.resolved_columns.Given as goal

abbrev pub invariant-loop-column : goal.invariant-loop-column
invariant-loop-column l = record {
  columns : l.columns.items ≡ map (resolved_column l.declaration) (take l.column-index l.declared);
  sound : list_all (λ c. is_some (type_of c.ty)) (take l.column-index l.declared) ≡ true;
}
