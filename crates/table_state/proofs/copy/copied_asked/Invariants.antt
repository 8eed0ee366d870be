-- The copies so far, and what is left, are all.
use Rattle.std.proofs.Common.{◌≡◌, ◌++◌, drop}
use Rattle.table_state.specs.Copies.{only_asked}
use Rattle.table_state.proofs.copy.copied_asked.Given as goal

abbrev pub invariant-loop-place : goal.invariant-loop-place
invariant-loop-place l = l.copies.items ++ only_asked l.asked l.place (drop l.place l.tables) ≡ only_asked l.asked 0 l.tables
