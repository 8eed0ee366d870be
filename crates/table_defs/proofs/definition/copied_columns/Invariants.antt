-- The copies so far are those of the columns so far.
use Rattle.std.proofs.Common.{◌≡◌, take}
use Rattle.table_defs.proofs.definition.copied_columns.Given as goal

abbrev pub invariant-loop-column : goal.invariant-loop-column
invariant-loop-column l = l.copies.items ≡ take l.column-index l.columns
