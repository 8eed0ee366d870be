-- The zeros so far don't count.
use Rattle.std.proofs.Common.{◌≡◌, length}
use Rattle.sql_words.specs.NormalTables.{by_value}
use Rattle.sql_words.proofs.table.by_value.Given as goal

abbrev pub invariant-loop-first : goal.invariant-loop-first
invariant-loop-first l = by_value l.digits ≡ by_value l.rest

abbrev pub decreases-loop-first : goal.decreases-loop-first
decreases-loop-first l = length l.rest
