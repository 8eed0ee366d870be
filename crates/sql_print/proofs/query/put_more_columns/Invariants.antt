-- The parts so far stand behind what was there.
use Rattle.std.proofs.Common.{◌≡◌, ◌++◌, take}
use Rattle.sql_words.specs.Words.{more, spaced}
use Rattle.sql_words.specs.Words.{column_name_words}
use Rattle.sql_print.proofs.query.put_more_columns.Given as goal

abbrev pub invariant-loop-name : goal.invariant-loop-name
invariant-loop-name l = l.out.items ≡ l.fn.out.items ++ spaced (more column_name_words (take l.name-index l.names))
