-- What a refresh by the changed instances leaves of what is stored.

use Rattle.std.specs.Prelude.{◌≡◌, ◌+◌, ℕ, zero, suc, List, [], ◌∷◌, Option, Some, None, length, slice_get}
use Rattle.std.specs.FinMap.{len}
use Rattle.instances.specs.Views.{kept_at}
use Rattle.group_catalog.specs.Catalogs.{groups_in}
use Rattle.group_store.specs.Stores.{Kept, SameButSpare}
use Rattle.slot_rows.specs.SlotKeys.{RowsHeld}
use Rattle.cache_tier.specs.Groups.{Group}
use Rattle.cache_tier.specs.Sets.{Choice}
use Rattle.stored_tier.specs.Filling.{HidesNone}
use Rattle.stored_tier.specs.declared.refreshing.Made.{Made}
use Rattle.stored_tier.specs.declared.tier.Tier.{Tier as Stored}
use Rattle.changed_sets.specs.Fresh.{AreFormed, IsExchanged}
use Rattle.changed_sets.specs.Turning.{IsReadyFor, IsTurned, count_cuts, count_turns}
use Rattle.changed_sets.specs.declared.turns.Patch.{Patch}

-- two lists, pair by pair
abbrev pub Pairs : (Kept → Kept → Type 0) → List Kept → List Kept → Type 0
Pairs P [] [] = Unit {0}
Pairs P [] (y ∷ ys) = ⊥
Pairs P (x ∷ xs) [] = ⊥
Pairs P (x ∷ xs) (y ∷ ys) = P x y × Pairs P xs ys

-- but for the room in its stores the tier is as it was
pub record IsRoomier (old new : Stored) : Type 0 where
  pub rest : new ≡ record old { stores = new.stores }
  pub stores : Pairs SameButSpare old.stores.items new.stores.items

-- the store behind a patch, where there is one
abbrev pub TurnedBy : Option Patch → Kept → Kept → Type 0
TurnedBy None s x = x ≡ s
TurnedBy (Some p) s x = IsTurned p s x

-- the hidden root rows behind it
abbrev pub HiddenBy : Option Patch → RowsHeld → RowsHeld → Type 0
HiddenBy None h x = x ≡ h
HiddenBy (Some p) h x = x ≡ p.hidden

-- so it is of each; those for which there is no patch stay
abbrev pub Patched : {X : Type 0} → (Option Patch → X → X → Type 0) → List (Option Patch) → List X → List X → Type 0
Patched R patches [] [] = Unit {0}
Patched R patches [] (y ∷ ys) = ⊥
Patched R patches (x ∷ xs) [] = ⊥
Patched R [] (x ∷ xs) (y ∷ ys) = (y ≡ x) × Patched R [] xs ys
Patched R (o ∷ patches) (x ∷ xs) (y ∷ ys) = R o x y × Patched R patches xs ys

-- so it is of the one at a place, and all else stays
abbrev pub PatchedAt : {X : Type 0} → (Option Patch → X → X → Type 0) → ℕ → Option Patch → List X → List X → Type 0
PatchedAt R place o [] [] = Unit {0}
PatchedAt R place o [] (y ∷ ys) = ⊥
PatchedAt R place o (x ∷ xs) [] = ⊥
PatchedAt R zero o (x ∷ xs) (y ∷ ys) = R o x y × (ys ≡ xs)
PatchedAt R (suc place) o (x ∷ xs) (y ∷ ys) = (y ≡ x) × PatchedAt R place o xs ys

-- what came of a patch, where there is one
abbrev pub CameOf : Option Patch → Kept → Option Made → Type 0
CameOf None s o = o ≡ None
CameOf (Some p) s None = ⊥
CameOf (Some p) s (Some m) = IsTurned p s m.store × (m.hidden ≡ p.hidden)

-- so it is of each
pub record AllCame (patches : List (Option Patch)) (stores : List Kept) (made : List (Option Made)) : Type 0 where
  pub long : length made ≡ length patches
  pub each : (k : ℕ) (o : Option Patch) (s : Kept) (x : Option Made) → slice_get patches k ≡ Some o
      → slice_get stores k ≡ Some s → slice_get made k ≡ Some x → CameOf o s x

-- the store of each patch is ready for it, and there is a place for the root rows that its group will hide
pub record AreReady (t : Stored) (patches : List (Option Patch)) : Type 0 where
  pub long : length patches ≡ length (groups_in t.catalog)
  pub ready : (k : ℕ) (p : Patch) (s : Kept) → slice_get patches k ≡ Some (Some p) → slice_get t.stores.items k ≡ Some s
      → IsReadyFor s p
  pub hiding : (k : ℕ) (g : Group) (p : Patch) (s : Kept) → slice_get (groups_in t.catalog) k ≡ Some g
      → slice_get patches k ≡ Some (Some p) → slice_get t.stores.items k ≡ Some s
      → HidesNone t.schema g (len (kept_at s.tables 0) + (count_cuts p.cuts + count_turns p.turns)) p.hidden

-- the patches are done, and the chosen groups are at the position; all else stays
pub record ShowsPatches (old new : Stored) (chosen : Choice) (n : ℕ) (patches : List (Option Patch)) : Type 0 where
  pub made : List (Option Made)
  pub came : AllCame patches old.stores.items made
  pub exchanged : IsExchanged old new chosen n made
  pub formed : AreFormed old.schema (groups_in old.catalog) made
