-- The values so far, and those of the columns and expressions that are left.
use Rattle.std.proofs.Common.{◌≡◌, ◌++◌, drop}
use Rattle.std.specs.Option.{option_map}
use Rattle.evaluator.specs.Writes.{stored_values}
use Rattle.evaluator.proofs.building.stored_values.Given as goal

abbrev pub invariant-loop-column : goal.invariant-loop-column
invariant-loop-column g l = record {
  place_is : l.place ≡ l.column-index;
  so_far : stored_values l.fn.columns l.fn.exprs (g.C.Columns.values l.fn.on) ≡ option_map (λ vs. l.values.items ++ vs) (stored_values (drop l.column-index l.fn.columns) (drop l.column-index l.fn.exprs) (g.C.Columns.values l.fn.on));
}
