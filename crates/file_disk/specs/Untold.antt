-- A disk that doesn't tell what it holds.

use Rattle.std.specs.Prelude.{◌≡◌, ℕ, [], Option, Some, None}
use Rattle.std.proofs.Common.{subst}
use Rattle.outside.specs.Holding.{Held}
use Rattle.outside.specs.Sites.{SiteState}

-- of a disk that failed so often: it has one moment and no bank, and others change nothing that it keeps
abbrev pub untold_state : ℕ → SiteState
untold_state faults = record { held = None; disk_faults = faults; bank_faults = 0; moment = 0; shared = [] }

-- anything may be possible
abbrev pub untold : {D : Type 0} → D → ℕ → Held → Type 0
untold d k p = Unit {0}

abbrev is_none : Option Held → Type 0
is_none None = Unit {0}
is_none (Some o) = ⊥

no_told : {P : Type 0} (o : Held) → ◌≡◌ {A = Option Held} None (Some o) → P
no_told o e = absurd (subst is_none e tt)

pub no_certain : {D : Type 0} (d : D) (o p : Held) → ◌≡◌ {A = Option Held} None (Some o) → untold d 0 p
    → p.history ≡ o.history
no_certain d o p e h = no_told o e

pub no_read : {D : Type 0} (d : D) (o : Held) → ◌≡◌ {A = Option Held} None (Some o) → untold d 0 o
no_read d o e = tt
