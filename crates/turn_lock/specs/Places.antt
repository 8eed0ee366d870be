-- Places of a list that grows, and counts over lists. This project's words.
use Rattle.std.specs.Prelude.{ℕ, suc, ◌+◌, ◌==◌, if◌then◌else◌, List, [], ◌∷◌, length, drop}
use mathlib.Core.List.{IsPrefix}

-- how often a number stands in a list
abbrev pub occurrences : ℕ → List ℕ → ℕ
occurrences x [] = 0
occurrences x (y ∷ ys) = (if y == x then 1 else 0) + occurrences x ys

-- what a function gives for each element, added up
abbrev pub total : {A : Type 0} → (A → ℕ) → List A → ℕ
total f [] = 0
total f (x ∷ xs) = f x + total f xs

-- the places of these elements, where the first stands at n
abbrev pub places_from : {E : Type 0} → ℕ → List E → List ℕ
places_from n [] = []
places_from n (x ∷ xs) = n ∷ places_from (suc n) xs

module _ {E : Type 0} where
  -- the places of the new list past the end of the old one
  abbrev pub new_places : List E → List E → List ℕ
  new_places old new = places_from (length old) (drop (length old) new)

  -- each of these lists is a beginning of this one
  abbrev pub AllBegin : List (List E) → List E → Type 0
  AllBegin [] list = Unit {0}
  AllBegin (x ∷ xs) list = IsPrefix x list × AllBegin xs list
