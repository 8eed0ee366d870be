-- LOAD, REFRESH, a dynamic load, UNLOAD and DROP of a group, as the statements do them. (TimesTen SQL Reference, "LOAD
-- CACHE GROUP", "REFRESH CACHE GROUP", "UNLOAD CACHE GROUP", "DROP CACHE GROUP"; TimesTen Cache User's Guide, "Dynamic
-- cache groups"; that a round comes first, and who holds what, is this project's rule.)

use Rattle.std.specs.Prelude.{◌≡◌, ℕ, List, [], true, Some, None, length, slice_get}
use Rattle.cache_tier.specs.DropSteps.{drop_fault}
use Rattle.cache_tier.specs.Groups.{Group, is_called, is_writethrough}
use Rattle.cache_tier.specs.Targets.{Target}
use Rattle.cache_tier.specs.TierStates.{Session, session_of}
use Rattle.cache_tier.specs.UnloadSteps.{unload_fault}
use Rattle.cache_tier.specs.Worlds.{World}

-- the group at the place is this one, and a writethrough one
pub record IsWrittenAt (groups : List Group) (place : ℕ) (g : Group) : Type 0 where
  pub there : slice_get groups place ≡ Some g
  pub through : is_writethrough g ≡ true

-- Instances may be loaded into the group at the place: it is a writethrough one, nothing is unsettled, and they are
-- read at this length of the history.
pub record IsLoadable (w : World) (place : ℕ) (g : Group) (n : ℕ) : Type 0 where
  pub group : IsWrittenAt w.tier.groups place g
  pub settled : w.tier.unsettled ≡ []
  pub whole : n ≡ length w.history

-- A session may unload instances of a writethrough group: it has no uncommitted writes, and UNLOAD has no fault.
pub record IsUnloadable (w : World) (s : Session) (x : Target) : Type 0 where
  pub group : IsWrittenAt w.tier.groups x.place x.group
  pub session : session_of w.tier s.label ≡ Some s
  pub rests : s.own ≡ []
  pub unlocked : unload_fault s x w ≡ None

-- A session may drop the group at a place by its name: no other one has this name, nothing is unsettled where it is a
-- writethrough one, the session has no uncommitted writes, and DROP has no fault.
pub record IsDroppable (w : World) (s : Session) (name : List ℕ) (place : ℕ) (g : Group) : Type 0 where
  pub there : slice_get w.tier.groups place ≡ Some g
  pub called : is_called name g ≡ true
  pub alone : (other : ℕ) (h : Group) → slice_get w.tier.groups other ≡ Some h → is_called name h ≡ true
      → other ≡ place
  pub settled : is_writethrough g ≡ true → w.tier.unsettled ≡ []
  pub session : session_of w.tier s.label ≡ Some s
  pub rests : s.own ≡ []
  pub unlocked : drop_fault s g w ≡ None
