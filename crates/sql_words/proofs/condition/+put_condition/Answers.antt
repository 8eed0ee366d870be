use Rattle.std.proofs.Common.{arith, rules, ◌≡◌, ◌++◌, codes, sym}
use Rattle.sql_phrases.specs.sql_query.specs.ChainSizes.{length_le-all_of, length_le-any_of, most_le-all_of, most_le-any_of}
use Rattle.sql_phrases.specs.sql_query.specs.Views.{all_of, any_of}
use Rattle.sql_words.specs.declared.condition.Strength.TheVariants.{Loose, Middle, Tight}
use Rattle.sql_words.specs.Trees.{binds_and, binds_or, bracketed, condition_words, other_words}
use Rattle.sql_words.proofs.ChainMeasures.{most_size-conditions}
use Rattle.sql_words.proofs.Chains.{all_words, any_words, bracketed_ok}
use Rattle.sql_words.proofs.Puts.{as_ok}
use Rattle.sql_words.proofs.condition.+put_condition.Goals as goal

pub put_condition-put_others-requires : goal.put_condition-put_others-requires
put_condition-put_others-requires t c =
    let first = c.in-All.first.value in
    let others = c.in-All.others.items in
    let whole : c.args.condition.now ≡ all_of first others = search rules in
    (grind (arith, whole, most_size-conditions others, most_le-all_of first others, length_le-all_of first others), tt)

pub put_condition-put_others-requires-in-Any : goal.put_condition-put_others-requires-in-Any
put_condition-put_others-requires-in-Any t c =
    let first = c.in-Any.first.value in
    let others = c.in-Any.others.items in
    let whole : c.args.condition.now ≡ any_of first others = search rules in
    (grind (arith, whole, most_size-conditions others, most_le-any_of first others, length_le-any_of first others), tt)

pub put_condition-returns-in_ok-put_others-in-All :
    goal.put_condition-returns-in_ok-put_others-in-All
put_condition-returns-in_ok-put_others-in-All t c =
    let s = c.args.strength in
    let first = c.in-All.first.value in
    let others = c.in-All.others.items in
    let whole : all_of first others ≡ c.args.condition.now = search rules in
    let front = condition_words Middle first in
    let behind = other_words (codes "AND") Tight others in
    let words : bracketed (binds_and s) (front ++ behind) ≡ condition_words s c.args.condition.now =
    rw (← whole) (sym (all_words s first others (search rules))) in
    as_ok _ _ _ (bracketed (binds_and s) (front ++ behind)) _
    (bracketed_ok _ _ _ _ _ _ (binds_and s) front behind
    (rw c.binds_and.ensures at c.in_ok-put_open-in-All.ensures)
    (rw c.deref-in-All.ensures at c.in_ok-put_condition-in-All.ensures)
    (rw c.as_slice.ensures.value at c.in_ok-put_others-in-All.ensures)
    (rw c.binds_and-in-All.ensures at c.put_close.ensures)) words

pub put_condition-returns-in_ok-put_others-in-Any :
    goal.put_condition-returns-in_ok-put_others-in-Any
put_condition-returns-in_ok-put_others-in-Any t c =
    let s = c.args.strength in
    let first = c.in-Any.first.value in
    let others = c.in-Any.others.items in
    let whole : any_of first others ≡ c.args.condition.now = search rules in
    let front = condition_words Loose first in
    let behind = other_words (codes "OR") Middle others in
    let words : bracketed (binds_or s) (front ++ behind) ≡ condition_words s c.args.condition.now =
    rw (← whole) (sym (any_words s first others (search rules))) in
    as_ok _ _ _ (bracketed (binds_or s) (front ++ behind)) _
    (bracketed_ok _ _ _ _ _ _ (binds_or s) front behind
    (rw c.binds_or.ensures at c.in_ok-put_open-in-Any.ensures)
    (rw c.deref-in-Any.ensures at c.in_ok-put_condition-in-Any.ensures)
    (rw c.as_slice-in-Any.ensures.value at c.in_ok-put_others-in-Any.ensures)
    (rw c.binds_or-in-Any.ensures at c.put_close-in-Any.ensures)) words
