-- What writing a batch behind a gate leaves.

use Rattle.std.specs.Prelude.{◌≡◌, ℕ, ◌⊎◌, List, ◌∷◌, ◌++◌}
use Rattle.outside.specs.declared.disk.Slot.{Slot}
use Rattle.outside.specs.Holding.{Held, slot_of, other}
use Rattle.outside.specs.Calls.{Certain}
use Rattle.outside.specs.Sites.{SiteState}

-- up to the gate the slot stays; the gate stays and anything stands behind it, or the bytes stand behind it
pub record MidBatch (slot : Slot) (front : List ℕ) (gate : ℕ) (bytes : List ℕ) (o p : Held) : Type 0 where
  pub beside : p.history ≡ o.history
  pub other_same : slot_of (other slot) p.slots ≡ slot_of (other slot) o.slots
  pub there : ((junk : List ℕ) × (slot_of slot p.slots ≡ front ++ gate ∷ junk))
      ⊎ ((g : ℕ) × (junk : List ℕ) × (slot_of slot p.slots ≡ front ++ g ∷ (bytes ++ junk)))

-- the gate is open, and the bytes stand behind it
pub record HasBatch {D : Type 0} (state : D → SiteState) (possible : D → ℕ → Held → Type 0) (d : D) (slot : Slot)
    (front bytes : List ℕ) (o : Held) : Type 0 where
  pub now : Held
  pub certain : Certain state possible d now
  pub beside : now.history ≡ o.history
  pub other_same : slot_of (other slot) now.slots ≡ slot_of (other slot) o.slots
  pub junk : List ℕ
  pub there : slot_of slot now.slots ≡ front ++ 1 ∷ (bytes ++ junk)
