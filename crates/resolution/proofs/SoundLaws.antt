-- Several writes, the first that isn't sound counting.

use Rattle.std.proofs.Common.{◌≡◌, refl, List, [], ◌∷◌, ◌++◌, map, ap, sym, ◌∙◌}
use Rattle.std.proofs.lemmas.List.{map-append}
use Rattle.std.specs.Prelude.{Result, Ok, Err}
use Rattle.evaluator.specs.row_types.specs.declared.rule.Rule.{Rule}
use Rattle.evaluator.specs.declared.change.Change.{Change}
use Rattle.evaluator.specs.Rules.{then_do}
use Rattle.resolution.specs.Results.{then_make}
use Rattle.resolution.specs.Writes.{PlacedChange, all_sound, change_seen, changes_seen, sound_with}

with_before : {A : Type 0} (sound : Result (List A) Rule) (r : Result A Rule) (x : A) → then_do (λ xs. Ok (x ∷ xs)) (sound_with sound r) ≡ sound_with (then_do (λ xs. Ok (x ∷ xs)) sound) r
with_before (Ok xs) (Ok y) x = refl
with_before (Ok xs) (Err e) x = refl
with_before (Err e) r x = refl

-- one more behind them
sound_behind : {A : Type 0} (rs : List (Result A Rule)) (r : Result A Rule) → all_sound (rs ++ r ∷ []) ≡ sound_with (all_sound rs) r
sound_behind [] r = refl
sound_behind (Ok x ∷ rs) r = ap (λ sound. then_do (λ xs. Ok (x ∷ xs)) sound) (sound_behind rs r) ∙ with_before (all_sound rs) r x
sound_behind (Err e ∷ rs) r = refl

-- the same of changes
pub sound_more : (named : List (Result Change Rule)) (r : Result Change Rule) (before after : Result (List Change) Rule) → then_make changes_seen before ≡ all_sound (map (then_make change_seen) named) → then_make changes_seen after ≡ sound_with (then_make changes_seen before) (then_make change_seen r) → then_make changes_seen after ≡ all_sound (map (then_make change_seen) (named ++ r ∷ []))
sound_more named r before after so more =
    let seen : List (Result PlacedChange Rule) = map (then_make change_seen) named in
    more
    ∙ ap (λ s. sound_with s (then_make change_seen r)) so
    ∙ sym (ap all_sound (map-append (then_make change_seen) named (r ∷ [])) ∙ sound_behind seen (then_make change_seen r))
