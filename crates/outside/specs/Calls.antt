-- What one call, or several, may do to a site that holds something. (This project's model of disk and crash.)

use Rattle.std.specs.Prelude.{◌≡◌, ℕ, ◌+◌, ◌-◌, ◌≤◌, ◌<◌, min, max, Option, Some, None, List, ◌++◌, Result, Ok, Err, length, take, drop}
use Rattle.std.specs.Result.{IfOk}
use Rattle.tier_base.specs.declared.number.TableId.{TableId}
use Rattle.table_state.specs.declared.history.Entry.{Entry}
use Rattle.outside.specs.declared.disk.Slot.{Slot}
use Rattle.outside.specs.Holding.{Held, slot_of, with_slot, with_bytes}
use Rattle.outside.specs.Others.{Around}
use Rattle.outside.specs.Sites.{SiteState}

-- what is told before a call is told after it, and the call is this step of it
abbrev pub Told : Option Held → Option Held → (Held → Held → Type 0) → Type 0
Told None new step = Unit {0}
Told (Some old) None step = ⊥
Told (Some old) (Some new) step = step old new

-- A call, or several: what was possible up to now stays as it was, and what was possible since then came by a step.
pub record GoesOn {D : Type 0} (state : D → SiteState) (possible : D → ℕ → Held → Type 0) (old new : D)
    (step : Held → Held → Type 0) : Type 0 where
  pub later : (state old).moment ≤ (state new).moment
  pub past : (k : ℕ) (p : Held) → k ≤ (state old).moment → possible new k p → possible old k p
  pub kept : (k : ℕ) (p : Held) → k ≤ (state old).moment → possible old k p → possible new k p
  pub since : (k : ℕ) (p : Held) → (state old).moment < k → k ≤ (state new).moment → possible new k p
      → (q : Held) × possible old (state old).moment q × step q p

-- What is known stays, and what a crash might leave stays possible at each moment.
pub record OnlyLooks {D : Type 0} (state : D → SiteState) (possible : D → ℕ → Held → Type 0) (old new : D) : Type 0
  where
    pub same : state new ≡ state old
    pub past : (k : ℕ) (p : Held) → possible new k p → possible old k p
    pub kept : (k : ℕ) (p : Held) → possible old k p → possible new k p

-- all stays
abbrev pub Stays : Held → Held → Type 0
Stays old new = new ≡ old

-- what is told stays
abbrev pub Same : Held → Held → Type 0
Same old new = new ≡ old

-- ---- calls of the disk

-- these bytes at this place
abbrev pub patched : ℕ → List ℕ → List ℕ → List ℕ
patched at bytes old = take at old ++ (bytes ++ drop (at + length bytes) old)

-- a write of n bytes that isn't synced: any bytes in the range and past the old end, the same elsewhere
pub record Torn (at n : ℕ) (old new : List ℕ) : Type 0 where
  pub before : take at new ≡ take at old
  pub after : drop (at + n) new ≡ drop (at + n) old
  pub no_shorter : length old ≤ length new
  pub no_longer : length new ≤ max (length old) (at + n)

-- a cut that isn't synced: some length between
pub record Cut (n : ℕ) (old new : List ℕ) : Type 0 where
  pub no_shorter : min n (length old) ≤ length new
  pub front : take (length new) old ≡ new

-- one slot changes by a step, all else stays
pub record Changes (slot : Slot) (step : List ℕ → List ℕ → Type 0) (old new : Held) : Type 0 where
  pub there : step (slot_of slot old.slots) (slot_of slot new.slots)
  pub elsewhere : new.slots ≡ with_slot slot (slot_of slot new.slots) old.slots
  pub beside : new.history ≡ old.history

-- what a crash may leave of a write within the slot, or at its end; of another nothing is said
abbrev pub MayWrite : Option Held → Slot → ℕ → List ℕ → Held → Held → Type 0
MayWrite None slot at bytes old new = Unit {0}
MayWrite (Some seen) slot at bytes old new =
    at ≤ length (slot_of slot seen.slots) → Changes slot (Torn at (length bytes)) old new

-- what a read gives after such a write; after a fault only what is kept beside the slots is told to stay
abbrev pub Wrote : {T E : Type 0} → Slot → ℕ → List ℕ → Result T E → Held → Held → Type 0
Wrote slot at bytes (Ok done) old new =
    at ≤ length (slot_of slot old.slots) → new ≡ with_bytes slot (patched at bytes (slot_of slot old.slots)) old
Wrote slot at bytes (Err e) old new = new.history ≡ old.history

-- what a crash may leave of a cut within the slot
abbrev pub MayCut : Option Held → Slot → ℕ → Held → Held → Type 0
MayCut None slot len old new = Unit {0}
MayCut (Some seen) slot len old new = len ≤ length (slot_of slot seen.slots) → Changes slot (Cut len) old new

-- what a read gives after a cut
abbrev pub WasCut : {T E : Type 0} → Slot → ℕ → Result T E → Held → Held → Type 0
WasCut slot len (Ok done) old new =
    len ≤ length (slot_of slot old.slots) → new ≡ with_bytes slot (take len (slot_of slot old.slots)) old
WasCut slot len (Err e) old new = new.history ≡ old.history

-- after a sync a crash leaves what a read gives of the slot
abbrev pub Durable : {T E : Type 0} → Option Held → Slot → Result T E → (Held → Type 0) → Type 0
Durable (Some seen) slot (Ok done) possible = (p : Held) → possible p → slot_of slot p.slots ≡ slot_of slot seen.slots
Durable None slot result possible = Unit {0}
Durable (Some seen) slot (Err e) possible = Unit {0}

-- the number is the slot's length
abbrev pub HasLength : {E : Type 0} → Slot → Result ℕ E → Held → Held → Type 0
HasLength slot result old new = (new ≡ old) × IfOk result (λ n. n ≡ length (slot_of slot old.slots))

-- the buffer begins with the slot's bytes from the place on, as many as both have
abbrev pub ReadsFrom : {E : Type 0} → Slot → ℕ → List ℕ → Result ℕ E → Held → Held → Type 0
ReadsFrom slot at buf result old new =
    (new ≡ old)
    × IfOk result (λ n. (n ≡ min (length buf) (length (slot_of slot old.slots) - at))
    × (take n buf ≡ take n (drop at (slot_of slot old.slots))))

-- ---- calls of the backing database

-- the second history has the first in front
pub record Lengthens (old new : List Entry) : Type 0 where
  pub more : List Entry
  pub is : new ≡ old ++ more

-- a history between two others, of which the second has the first in front
pub record IsBetween (old new : List Entry) (h : List Entry) : Type 0 where
  pub came : Lengthens old h
  pub comes : Lengthens h new

-- A call of the backing database keeps the slots, and the history takes this step, with transactions of others before
-- and behind it. It only gets longer.
pub record BankCall (shared : List TableId) (step : List Entry → List Entry → Type 0) (old new : Held) : Type 0 where
  pub slots : new.slots ≡ old.slots
  pub grows : Lengthens old.history new.history
  pub history : Around shared step old.history new.history

-- What a crash may leave of such a call, where the site tells behind it what it holds: the slots as they were, and the
-- history somewhere on its way. Else nothing is said.
abbrev pub MayGrow : Option Held → Held → Held → Type 0
MayGrow None old p = Unit {0}
MayGrow (Some new) old p = (p.slots ≡ old.slots) × IsBetween old.history new.history p.history

-- a call of the backing database, as it is told
abbrev pub BankTold : SiteState → SiteState → (List Entry → List Entry → Type 0) → Type 0
BankTold old new step = Told old.held new.held (BankCall old.shared step)

-- a call of the backing database, as a crash may leave it
abbrev pub BankGoesOn : {D : Type 0} → (D → SiteState) → (D → ℕ → Held → Type 0) → D → D → Type 0
BankGoesOn state possible old new = GoesOn state possible old new (MayGrow (state new).held)

-- ---- several calls

-- it tells what it holds, and a crash now leaves that
pub record Certain {D : Type 0} (state : D → SiteState) (possible : D → ℕ → Held → Type 0) (d : D) (seen : Held)
    : Type 0 where
  pub told : (state d).held ≡ Some seen
  pub only : (p : Held) → possible d (state d).moment p → p ≡ seen

-- a crash at any moment from the old to the new leaves a pair that has P, and no earlier moment's pairs change
pub record Leaves {D : Type 0} (state : D → SiteState) (possible : D → ℕ → Held → Type 0) (old new : D)
    (P : Held → Type 0) : Type 0 where
  pub later : (state old).moment ≤ (state new).moment
  pub past : (k : ℕ) (p : Held) → k ≤ (state old).moment → possible new k p → possible old k p
  pub kept : (k : ℕ) (p : Held) → k ≤ (state old).moment → possible old k p → possible new k p
  pub each : (k : ℕ) (p : Held) → (state old).moment ≤ k → k ≤ (state new).moment → possible new k p → P p

-- what was certain is certain still, at each moment between
abbrev pub Rests : {D : Type 0} → (D → SiteState) → (D → ℕ → Held → Type 0) → D → D → Type 0
Rests state possible old new =
    (o : Held) → Certain state possible old o
    → Certain state possible new o × Leaves state possible old new (λ p. p ≡ o)
