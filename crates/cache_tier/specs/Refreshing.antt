-- A refresh of READONLY groups from one snapshot. (TimesTen Cache User's Guide, "Automatically refreshing a cache
-- group"; that all are refreshed at one position is this project's rule.)

use Rattle.std.specs.Prelude.{◌≡◌, ℕ, ◌≤◌, Some, true, false, length, slice_get}
use Rattle.tier_base.specs.declared.number.TableId.{TableId}
use Rattle.table_state.specs.Histories.{state_at}
use Rattle.table_state.specs.Tables.{TableState, table_at}
use Rattle.instances.specs.Trees.{place_of}
use Rattle.instances.specs.Views.{kept_at}
use Rattle.cache_tier.specs.Groups.{Group, covers, is_read_only}
use Rattle.cache_tier.specs.Sets.{Choice, OnePosition, refreshed}
use Rattle.cache_tier.specs.Shown.{shown_in, shown_state}
use Rattle.cache_tier.specs.Worlds.{World}
use Rattle.cache_tier.specs.StandingBetween.{Stands}

-- The chosen groups may be refreshed at a position of the history, which leaves this state there: they are READONLY,
-- and behind it each set has one position.
pub record MayRefresh (w : World) (choice : Choice) (n : ℕ) (s : TableState) : Type 0 where
  pub state : state_at w.history n ≡ Some s
  pub within : n ≤ length w.history
  pub reads : (place : ℕ) (g : Group) → slice_get w.tier.groups place ≡ Some g → choice place g ≡ true
      → is_read_only g ≡ true
  pub one : OnePosition (refreshed choice n s w.tier).groups

-- It still stands. Of each table of a chosen group those rows are shown that the group showed of the state, and all
-- other tables are shown as they were.
pub record ShowsRefreshed (choice : Choice) (s : TableState) (w w' : World) : Type 0 where
  pub stands : Stands w'
  pub refreshed : (place : ℕ) (g : Group) (u : TableId) (p : ℕ) → slice_get w.tier.groups place ≡ Some g
      → choice place g ≡ true → place_of g.def.tree u ≡ Some p
      → table_at (shown_state w'.history w'.tier) u ≡ kept_at (shown_in s g) p
  pub others : (u : TableId)
      → ((place : ℕ) (g : Group) → slice_get w.tier.groups place ≡ Some g → covers u g ≡ true
      → choice place g ≡ false)
      → table_at (shown_state w'.history w'.tier) u ≡ table_at (shown_state w.history w.tier) u
