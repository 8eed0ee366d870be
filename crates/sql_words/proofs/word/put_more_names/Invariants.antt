-- The names so far stand behind what was there.
use Rattle.std.proofs.Common.{◌≡◌, ◌++◌, take}
use Rattle.sql_words.specs.Words.{spaced}
use Rattle.sql_words.specs.Words.{identifier_words, more}
use Rattle.sql_words.proofs.word.put_more_names.Given as goal

abbrev pub invariant-loop-name : goal.invariant-loop-name
invariant-loop-name l = l.out.items ≡ l.fn.out.items ++ spaced (more identifier_words (take l.name-index l.names))
