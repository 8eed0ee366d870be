-- The reserved words that begin with a letter.
use Rattle.std.proofs.Common.{◌≡◌, ℕ, Bool, true, false, ◌&&◌, ◌||◌, cond, eqb, List, [], ◌∷◌, refl, ap}
use Rattle.std.specs.List.{filter}
use Rattle.std.specs.Char.{to_ascii_uppercase}
use Rattle.tier_base.specs.Names.{is_among, spells}

-- the word begins with this letter
abbrev pub begins_so : ℕ → List ℕ → Bool
begins_so letter [] = false
begins_so letter (x ∷ xs) = eqb letter x

-- only those that begin with a word's letter count for the word
pub letter_finds : (ws : List (List ℕ)) (letter b : ℕ) (word : List ℕ) → to_ascii_uppercase b ≡ letter → is_among (filter (begins_so letter) ws) (b ∷ word) ≡ is_among ws (b ∷ word)
letter_finds [] letter b word h = refl
letter_finds ([] ∷ ws) letter b word h = letter_finds ws letter b word h
letter_finds ((x ∷ xs) ∷ ws) letter b word h = by (eqb letter x) refl (letter_finds ws letter b word h)
  where
    same : eqb (to_ascii_uppercase b) x ≡ eqb letter x
    same = ap (λ (c : ℕ). eqb c x) h

    by : (t : Bool) → eqb letter x ≡ t → is_among (filter (begins_so letter) ws) (b ∷ word) ≡ is_among ws (b ∷ word)
        → is_among (cond t ((x ∷ xs) ∷ filter (begins_so letter) ws) (filter (begins_so letter) ws)) (b ∷ word) ≡ is_among ((x ∷ xs) ∷ ws) (b ∷ word)
    by true e i = ap (λ (n : Bool). (eqb (to_ascii_uppercase b) x && spells word xs) || n) i
    by false e i = rw (same, e) i
