-- An instance that a dynamic load brings in. (TimesTen Cache User's Guide, "Dynamically loading a cache instance"; that
-- a writethrough group is loaded behind the round that settles all, and a READONLY one with its whole set, is this
-- project's rule.)

use Rattle.std.specs.Prelude.{◌≡◌, ℕ, ◌≤◌, [], true, Some, length, slice_get}
use Rattle.table_state.specs.Histories.{state_at, state_of}
use Rattle.table_state.specs.Tables.{TableState}
use Rattle.cache_tier.specs.Groups.{Group, is_read_only, is_writethrough}
use Rattle.cache_tier.specs.Worlds.{World}

-- An instance of the backing state may come to the writethrough group at a place: nothing is unsettled.
pub record MayBring (w : World) (place : ℕ) (g : Group) (s : TableState) : Type 0 where
  pub there : slice_get w.tier.groups place ≡ Some g
  pub writes : is_writethrough g ≡ true
  pub settled : w.tier.unsettled ≡ []
  pub state : state_of w.history ≡ Some s

-- The READONLY group at a place may be refreshed with its set at a position of the history, which leaves this state
-- there.
pub record MayJoin (w : World) (place : ℕ) (g : Group) (n : ℕ) (s : TableState) : Type 0 where
  pub there : slice_get w.tier.groups place ≡ Some g
  pub reads : is_read_only g ≡ true
  pub state : state_at w.history n ≡ Some s
  pub within : n ≤ length w.history
