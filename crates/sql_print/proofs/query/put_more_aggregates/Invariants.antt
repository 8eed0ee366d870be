-- The parts so far stand behind what was there.
use Rattle.std.proofs.Common.{◌≡◌, ◌++◌, take}
use Rattle.sql_words.specs.Words.{more, spaced}
use Rattle.sql_print.specs.Queries.{aggregate_words}
use Rattle.sql_print.proofs.query.put_more_aggregates.Given as goal

abbrev pub invariant-loop-aggregate : goal.invariant-loop-aggregate
invariant-loop-aggregate l = l.out.items ≡ l.fn.out.items ++ spaced (more aggregate_words (take l.aggregate-index l.aggregates))
