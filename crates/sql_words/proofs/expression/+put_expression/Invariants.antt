-- The operations and operands so far stand behind what was there.
use Rattle.std.proofs.Common.{◌≡◌, ◌++◌, take}
use Rattle.sql_words.specs.Trees.{link_words}
use Rattle.sql_words.specs.Words.{spaced}
use Rattle.sql_words.proofs.expression.+put_expression.Given as goal

abbrev pub invariant-put_links-loop-link : goal.invariant-put_links-loop-link
invariant-put_links-loop-link l = l.out.items ≡ l.fn.out.items ++ spaced (link_words (take l.link-index l.links))
