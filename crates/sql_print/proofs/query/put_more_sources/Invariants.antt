-- The parts so far stand behind what was there.
use Rattle.std.proofs.Common.{◌≡◌, ◌++◌, take}
use Rattle.sql_words.specs.Words.{more, spaced}
use Rattle.sql_print.specs.Queries.{source_words}
use Rattle.sql_print.proofs.query.put_more_sources.Given as goal

abbrev pub invariant-loop-source : goal.invariant-loop-source
invariant-loop-source l = l.out.items ≡ l.fn.out.items ++ spaced (more source_words (take l.source-index l.sources))
