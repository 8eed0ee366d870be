-- The marked columns so far are there.
use Rattle.std.proofs.Common.{◌≡◌, take}
use Rattle.sql_words.specs.NormalTables.{marked}
use Rattle.sql_words.proofs.table.marked.Given as goal

abbrev pub invariant-loop-column : goal.invariant-loop-column
invariant-loop-column l = l.names.items ≡ marked (take l.column-index l.columns)
