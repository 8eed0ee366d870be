-- The words and conditions so far stand behind what was there.
use Rattle.std.proofs.Common.{◌≡◌, ◌++◌, take}
use Rattle.sql_words.specs.Trees.{other_words}
use Rattle.sql_words.specs.Words.{spaced}
use Rattle.sql_words.proofs.condition.+put_condition.Given as goal

abbrev pub invariant-put_others-loop-condition : goal.invariant-put_others-loop-condition
invariant-put_others-loop-condition l =
    l.out.items ≡ l.fn.out.items ++ spaced (other_words l.word l.strength (take l.condition-index l.others))
