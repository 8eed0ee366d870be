-- The expressions so far stand behind what was there.
use Rattle.std.proofs.Common.{◌≡◌, ◌++◌, take}
use Rattle.sql_words.specs.Words.{more, spaced}
use Rattle.sql_words.specs.Trees.{expression_words}
use Rattle.sql_words.proofs.expression.put_more_expressions.Given as goal

abbrev pub invariant-loop-expression : goal.invariant-loop-expression
invariant-loop-expression l = l.out.items ≡ l.fn.out.items ++ spaced (more expression_words (take l.expression-index l.list))
