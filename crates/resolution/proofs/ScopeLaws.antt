-- Columns found among those that are shown.

use Rattle.std.proofs.Common.{◌≡◌, refl, ℕ, ◌+◌, List, [], ◌∷◌, Option, Some, None, Bool, cond, if◌then◌else◌, ◌==◌, sym, nat_lt, not, length, map, count_by, position, ap, ◌∙◌}
use Rattle.std.proofs.lemmas.List.{length-map}
use Rattle.std.specs.List.{fold, prefix_len}
use Rattle.resolution.specs.declared.scope.Seen.{Seen}
use Rattle.resolution.specs.Scopes.{fits, place_in, shown, shown_column}

prefix_len-map : {A B : Type 0} (p : B → Bool) (f : A → B) (xs : List A) → prefix_len p (map f xs) ≡ prefix_len (λ x. p (f x)) xs
prefix_len-map p f [] = refl
prefix_len-map p f (x ∷ xs) = ap (λ n. cond (p (f x)) (1 + n) 0) (prefix_len-map p f xs)

place_at : ℕ → ℕ → Option ℕ
place_at n m = cond (nat_lt n m) (Some n) None

position-map : {A B : Type 0} (p : B → Bool) (f : A → B) (xs : List A) → position p (map f xs) ≡ position (λ x. p (f x)) xs
unfolding place_at
position-map p f xs =
    ap (λ n. place_at n (length (map f xs))) (prefix_len-map (λ x. not (p x)) f xs)
    ∙ ap (λ m. place_at (prefix_len (λ x. not (p (f x))) xs) m) (length-map xs f)

fold-map : {A B : Type 0} (h : B → ℕ) (f : A → B) (n : ℕ) (xs : List A) → fold (λ a x. a + h x) n (map f xs) ≡ fold (λ a x. a + h (f x)) n xs
fold-map h f n [] = refl
fold-map h f n (x ∷ xs) = fold-map h f (n + h (f x)) xs

count_by-map : {A B : Type 0} (p : B → Bool) (f : A → B) (xs : List A) → count_by p (map f xs) ≡ count_by (λ x. p (f x)) xs
count_by-map p f xs = fold-map (λ x. cond (p x) 1 0) f 0 xs

-- the only column that fits among those that are shown is the only one of the scope
pub placed_once : (name : List ℕ) (scope : List Seen) (n : ℕ) (place : Option ℕ) → n ≡ count_by (λ seen. fits name (shown_column seen)) scope → n ≡ 1 → place ≡ position (λ seen. fits name (shown_column seen)) scope → place ≡ place_in (shown scope) name
placed_once name scope n place counted one found =
    found ∙ sym (position-map (fits name) shown_column scope)
    ∙ sym (ap (λ b. if b then position (fits name) (shown scope) else None) (ap (λ k. k == 1) (count_by-map (fits name) shown_column scope ∙ sym counted ∙ one)))
