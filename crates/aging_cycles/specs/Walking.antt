-- How the instances of a store are gone over. (This project's rule.)

use Rattle.std.specs.Prelude.{◌≡◌, ℕ, ◌-◌, ℤ, List, [], ◌∷◌, Bool, not, nat_lt, Option, Some, None, set, slice_get, if◌then◌else◌}
use Rattle.std.specs.Bool.{MatchBool}
use Rattle.row_types.specs.declared.value.Value.{Value}
use Rattle.indexed_rows.specs.Places.{Entries}
use Rattle.indexed_rows.specs.Rows.{is_same}
use Rattle.instances.specs.Views.{kept_at}
use Rattle.recency.specs.Rings.{next_key}
use Rattle.slot_rows.specs.SlotKeys.{RowsHeld}
use Rattle.group_store.specs.Recent.{StandsAt}
use Rattle.group_store.specs.Stores.{Kept, SameButSpare, cut_store}
use Rattle.cache_tier.specs.Groups.{Group}
use Rattle.aging_cycles.specs.Cycles.{is_expired}
use Rattle.aging_cycles.specs.Running.{HasLeft, Leaves}
use Rattle.aging_cycles.specs.declared.by_use.Step.{Step}

-- a place in key order, where the one at another place has left
abbrev pub place_without : ℕ → Option ℕ → Option ℕ
place_without at None = None
place_without at (Some place) = if nat_lt at place then Some (place - 1) else Some place

-- an instance leaves, or all stays where it is busy
abbrev pub LeavesUnless : Bool → List Value → Kept → Kept → Type 0
LeavesUnless busy root old new = MatchBool busy (new ≡ old) (SameButSpare (cut_store 0 root old) new)

-- so it is with the next one in the order of last use
pub record Passes (busy : Bool) (root : List Value) (old new : Kept) (step : Step) : Type 0 where
  pub gone : step.gone ≡ not busy
  pub leaves : LeavesUnless busy root old new
  pub next : StandsAt (kept_at new.tables 0) (next_key is_same root old.keys) step.next

-- the entry at a place has this key and this row
abbrev pub IsEntryAt : Entries → List Value → List Value → ℕ → Type 0
IsEntryAt es key row at = slice_get es at ≡ Some (key, row)

-- nothing changes
pub record AllStays (s left : Kept) (h behind : RowsHeld) : Type 0 where
  pub store : left ≡ s
  pub hidden : behind ≡ h

-- an instance that is expired leaves, or is hidden
pub record LooksAt (hides : Bool) (horizon : Option ℤ) (column : ℕ) (busy : List Value → Bool) (root row : List Value)
    (s left : Kept) (h behind : RowsHeld) (gone : Bool) : Type 0 where
  pub tells : gone ≡ is_expired horizon column busy root row
  pub does : MatchBool gone (Leaves hides (root ∷ []) s left h behind) (AllStays s left h behind)

-- instances have left the store at a place of a group, or are hidden
pub record LeavesPlace (k : ℕ) (g : Group) (keys : Kept → List (List Value)) (old : List Kept) (hid : List RowsHeld)
    (new : List Kept) (hidden : List RowsHeld) : Type 0 where
  pub store : Kept
  pub left : Kept
  pub before : RowsHeld
  pub behind : RowsHeld
  pub kept : slice_get old k ≡ Some store
  pub held : slice_get hid k ≡ Some before
  pub does : HasLeft g (keys store) store left before behind
  pub stores : new ≡ set old k left
  pub rows : hidden ≡ set hid k behind
