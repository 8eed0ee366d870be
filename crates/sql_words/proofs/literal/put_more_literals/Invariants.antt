-- The literals so far stand behind what was there.
use Rattle.std.proofs.Common.{◌≡◌, ◌++◌, take}
use Rattle.sql_words.specs.Words.{spaced}
use Rattle.sql_words.specs.Words.{literal_words, more}
use Rattle.sql_words.proofs.literal.put_more_literals.Given as goal

abbrev pub invariant-loop-literal : goal.invariant-loop-literal
invariant-loop-literal l = l.out.items ≡ l.fn.out.items ++ spaced (more literal_words (take l.literal-index l.literals))
