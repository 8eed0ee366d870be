-- That a disk stays certain over calls of the backing database. (This project's model of disk and crash.)

use Rattle.std.specs.Prelude.{◌≡◌, ◌⊎◌, ℕ, ◌≤◌}
use Rattle.outside.specs.Calls.{Certain, IsBetween, Lengthens}
use Rattle.outside.specs.Holding.{Held}
use Rattle.outside.specs.Sites.{SiteState}

-- What a crash may leave at a moment up to the present one it might have left before, at a moment of then; or it has
-- the slots of then, and the history on its way.
abbrev pub LeavesOnlyHistory : {D : Type 0} → (D → SiteState) → (D → ℕ → Held → Type 0) → D → D → Held → Held → Type 0
LeavesOnlyHistory state possible before d o now =
    (k : ℕ) (p : Held) → k ≤ (state d).moment → possible d k p
    → (k ≤ (state before).moment) × possible before k p
    ⊎ (p.slots ≡ o.slots) × IsBetween o.history now.history p.history

-- it is certain, with these slots, and its history only got longer
pub record StaysCertain {D : Type 0} (state : D → SiteState) (possible : D → ℕ → Held → Type 0) (before d : D)
    (o : Held) : Type 0 where
  pub now : Held
  pub certain : Certain state possible d now
  pub slots : now.slots ≡ o.slots
  pub grows : Lengthens o.history now.history
  pub leaves : LeavesOnlyHistory state possible before d o now

-- where a disk was certain, it still is, with the slots that it had
abbrev pub KeepsCertain : {D : Type 0} → (D → SiteState) → (D → ℕ → Held → Type 0) → D → D → Type 0
KeepsCertain state possible old new = (o : Held) → Certain state possible old o → StaysCertain state possible old new o
