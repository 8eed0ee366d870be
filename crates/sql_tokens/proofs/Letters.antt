-- The keywords that begin with a letter.
use Rattle.std.proofs.Common.{◌≡◌, ℕ, Bool, true, false, not, ◌&&◌, cond, eqb, List, [], ◌∷◌, refl, sym, ap, ◌∙◌, arith}
use Rattle.std.specs.List.{filter, list_all}
use Rattle.std.specs.Char.{to_ascii_uppercase}
use Rattle.tier_base.specs.Names.{spells}
use Rattle.sql_tokens.specs.declared.kind.Kind.{Kind}
use Rattle.sql_tokens.specs.declared.kind.Kind.TheVariants.{Identifier}
use Rattle.sql_tokens.specs.Words.{keywords, named}

-- the keyword begins with this letter
abbrev pub begins_so : ℕ → List ℕ × Kind → Bool
begins_so letter e = first_is letter e.0
  where
    first_is : ℕ → List ℕ → Bool
    first_is c [] = false
    first_is c (x ∷ xs) = eqb c x

-- only those that begin with a word's letter count for the word
pub letter_finds : (es : List (List ℕ × Kind)) (letter b : ℕ) (word : List ℕ) → to_ascii_uppercase b ≡ letter → named (filter (begins_so letter) es) (b ∷ word) ≡ named es (b ∷ word)
letter_finds [] letter b word h = refl
letter_finds (([], k) ∷ es) letter b word h = letter_finds es letter b word h
letter_finds ((x ∷ xs, k) ∷ es) letter b word h = by (eqb letter x) refl (letter_finds es letter b word h)
  where
    same : eqb (to_ascii_uppercase b) x ≡ eqb letter x
    same = ap (λ (c : ℕ). eqb c x) h

    by : (t : Bool) → eqb letter x ≡ t → named (filter (begins_so letter) es) (b ∷ word) ≡ named es (b ∷ word)
        → named (cond t ((x ∷ xs, k) ∷ filter (begins_so letter) es) (filter (begins_so letter) es)) (b ∷ word) ≡ named ((x ∷ xs, k) ∷ es) (b ∷ word)
    by true e i = ap (λ (n : Kind). cond (eqb (to_ascii_uppercase b) x && spells word xs) k n) i
    by false e i = rw (same, e) i
