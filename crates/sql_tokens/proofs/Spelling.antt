-- A word that spells another is as long.
use Rattle.std.proofs.Common.{◌≡◌, ℕ, suc, Bool, true, false, eqb, ◌&&◌, List, [], ◌∷◌, length, refl, ap}
use Rattle.std.specs.Char.{to_ascii_uppercase}
use Rattle.tier_base.specs.Names.{spells}

-- words of two lengths don't spell each other
pub unlike_lengths : (word keyword : List ℕ) → (length word ≡ length keyword → ⊥) → spells word keyword ≡ false
unlike_lengths [] [] h = absurd (h refl)
unlike_lengths [] (c ∷ keyword) h = refl
unlike_lengths (b ∷ word) [] h = refl
unlike_lengths (b ∷ word) (c ∷ keyword) h = by (eqb (to_ascii_uppercase b) c) (unlike_lengths word keyword (λ e. h (ap suc e)))
  where
    by : (t : Bool) → spells word keyword ≡ false → (t && spells word keyword) ≡ false
    by true e = e
    by false e = refl
