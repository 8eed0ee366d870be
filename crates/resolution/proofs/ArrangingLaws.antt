-- One more value in a row.

use Rattle.std.proofs.Common.{◌≡◌, refl, ℕ, zero, suc, List, [], ◌∷◌, ◌++◌, drop, length, slice_set, ap, ◌∙◌}
use Rattle.std.proofs.lemmas.List.{length-map, map-append, map-set}
use Rattle.evaluator.specs.expressions.specs.Trees.{Expr}
use Rattle.resolution.specs.Assignments.{arranged, put_first}
use Rattle.resolution.specs.Placing.{PlacedExpression, expression_seen, expressions_seen}

drop_none : (n : ℕ) → drop {A = ℕ} n [] ≡ []
drop_none zero = refl
drop_none (suc n) = refl

-- it stands at the next column's place
arranged_next : {A : Type 0} (row : List A) (places : List ℕ) (values : List A) (value : A) → arranged row places (values ++ value ∷ []) ≡ put_first (arranged row places values) (drop (length values) places) value
arranged_next row places [] value = refl
arranged_next row [] (v ∷ values) value = arranged_next row [] values value ∙ ap (λ ps. put_first (arranged row [] values) ps value) (drop_none (length values))
arranged_next row (p ∷ places) (v ∷ values) value = arranged_next (put_first row (p ∷ places) v) places values value

-- the same of expressions
pub arranged_seen : (row : List PlacedExpression) (places : List ℕ) (values : List Expr) (value : Expr) → arranged row places (expressions_seen (values ++ value ∷ [])) ≡ put_first (arranged row places (expressions_seen values)) (drop (length values) places) (expression_seen value)
arranged_seen row places values value =
    ap (λ vs. arranged row places vs) (map-append expression_seen values (value ∷ []))
    ∙ arranged_next row places (expressions_seen values) (expression_seen value)
    ∙ ap (λ n. put_first (arranged row places (expressions_seen values)) (drop n places) (expression_seen value)) (length-map values expression_seen)

length_more : (values : List Expr) (value : Expr) → length (values ++ value ∷ []) ≡ suc (length values)
length_more [] value = refl
length_more (v ∷ values) value = ap suc (length_more values value)

drop_next : (n : ℕ) (places : List ℕ) → drop (suc n) places ≡ drop 1 (drop n places)
drop_next zero places = refl
drop_next (suc n) [] = refl
drop_next (suc n) (p ∷ places) = drop_next n places

-- the places behind the next one
pub drop_more : (places : List ℕ) (values : List Expr) (value : Expr) → drop (length (values ++ value ∷ [])) places ≡ drop 1 (drop (length values) places)
drop_more places values value = ap (λ n. drop n places) (length_more values value) ∙ drop_next (length values) places

-- a value in a row of expressions
pub seen_set : (row : List Expr) (place : ℕ) (value : Expr) → expressions_seen (slice_set row place value) ≡ slice_set (expressions_seen row) place (expression_seen value)
seen_set row place value = map-set expression_seen row place value
