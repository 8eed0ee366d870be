-- Keys that come to a writethrough group, and keys that leave it. (TimesTen SQL Reference, "LOAD CACHE GROUP", "UNLOAD
-- CACHE GROUP"; that a load comes behind the round that settles all is this project's rule.)

use Rattle.std.specs.Prelude.{◌≡◌, ℕ, List, [], Bool, true, false, Some, slice_get}
use Rattle.std.specs.FinMap.{contains_key}
use Rattle.row_types.specs.declared.value.Value.{Value}
use Rattle.tier_base.specs.declared.number.TableId.{TableId}
use Rattle.indexed_rows.specs.Rows.{Table}
use Rattle.table_state.specs.declared.footprint.RowKey.{RowKey}
use Rattle.table_state.specs.Histories.{state_of}
use Rattle.table_state.specs.Tables.{TableState, table_at}
use Rattle.instances.specs.Trees.{place_of}
use Rattle.instances.specs.Views.{kept_at}
use Rattle.order_laws.specs.Commits.{virtual_state}
use Rattle.order_laws.specs.Effects.{row_at}
use Rattle.cache_tier.specs.Groups.{Group, covers, is_writethrough}
use Rattle.cache_tier.specs.Locks.{holds}
use Rattle.cache_tier.specs.Shown.{instances_where, root_key, shown_state}
use Rattle.cache_tier.specs.TierStates.{Session}
use Rattle.cache_tier.specs.Worlds.{World}
use Rattle.cache_tier.specs.StandingBetween.{Each, Stands, has_root_row}

-- The keys of these rows may come to the writethrough group at a place: nothing is unsettled, and each is that of a
-- root row of the backing state.
pub record MayLoad (w : World) (place : ℕ) (g : Group) (rows : Table) : Type 0 where
  pub there : slice_get w.tier.groups place ≡ Some g
  pub writes : is_writethrough g ≡ true
  pub settled : w.tier.unsettled ≡ []
  pub roots : (s : TableState) → state_of w.history ≡ Some s → (key : List Value) → contains_key rows key ≡ true
      → has_root_row s g key ≡ true

-- no key that the session holds has a row that comes or leaves
abbrev pub IsUntouchedBy : World → World → Session → Type 0
IsUntouchedBy w w' s =
    (key : RowKey) → holds w.tier.schema key s ≡ true
    → row_at (shown_state w'.history w'.tier) key.table key.key
    ≡ row_at (shown_state w.history w.tier) key.table key.key

-- Keys may leave the writethrough group at a place, which leads to this world: no session holds the key of a row that
-- leaves.
pub record MayUnload (w : World) (place : ℕ) (g : Group) (w' : World) : Type 0 where
  pub there : slice_get w.tier.groups place ≡ Some g
  pub writes : is_writethrough g ≡ true
  pub unheld : Each (IsUntouchedBy w w') w.tier.sessions

-- It still stands. The group's tables are shown with the instances of the virtual state whose root key passes a test,
-- and all other tables are shown as they were.
pub record ShowsKeys (g : Group) (test : List Value → Bool) (w w' : World) : Type 0 where
  pub stands : Stands w'
  pub its : (v : TableState) (u : TableId) (p : ℕ) → virtual_state w.history w.tier.log ≡ Some v
      → place_of g.def.tree u ≡ Some p
      → table_at (shown_state w'.history w'.tier) u
      ≡ kept_at (instances_where v g.def.tree (λ row. test (root_key v g row))) p
  pub others : (u : TableId) → covers u g ≡ false
      → table_at (shown_state w'.history w'.tier) u ≡ table_at (shown_state w.history w.tier) u
