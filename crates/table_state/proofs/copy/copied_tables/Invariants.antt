-- The copies so far are those of the tables so far.
use Rattle.std.proofs.Common.{◌≡◌, take}
use Rattle.table_state.proofs.copy.copied_tables.Given as goal

abbrev pub invariant-loop-rows : goal.invariant-loop-rows
invariant-loop-rows l = l.copies.items ≡ take l.rows-index l.tables
