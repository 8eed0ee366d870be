-- The parts so far stand behind what was there.
use Rattle.std.proofs.Common.{◌≡◌, ◌++◌, take}
use Rattle.sql_words.specs.Words.{more, spaced}
use Rattle.sql_print.specs.Queries.{item_words}
use Rattle.sql_print.proofs.query.put_more_items.Given as goal

abbrev pub invariant-loop-item : goal.invariant-loop-item
invariant-loop-item l = l.out.items ≡ l.fn.out.items ++ spaced (more item_words (take l.item-index l.items))
