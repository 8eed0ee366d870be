-- A group that is dropped. (TimesTen SQL Reference, "DROP CACHE GROUP"; that what is pending is applied first is this
-- project's rule.)

use Rattle.std.specs.Prelude.{◌≡◌, ℕ, List, [], ◌∷◌, ◌++◌, true, false, not}
use Rattle.std.specs.FinMap.{empty}
use Rattle.std.specs.List.{filter, list_all}
use Rattle.tier_base.specs.declared.number.TableId.{TableId}
use Rattle.table_state.specs.Tables.{table_at}
use Rattle.order_laws.specs.Sides.{are_off}
use Rattle.cache_tier.specs.Commits.{tables_of}
use Rattle.cache_tier.specs.Groups.{Group, covers, is_called, is_writethrough}
use Rattle.cache_tier.specs.Shown.{shown_state}
use Rattle.cache_tier.specs.Worlds.{World}
use Rattle.cache_tier.specs.StandingBetween.{Stands, own_writes}

-- The group of a name may be dropped: it is one of the groups, and the only one of the name. Where it is a writethrough
-- one nothing is unsettled, and no session has written on its tables.
pub record MayDrop (w : World) (name : List ℕ) (g : Group) : Type 0 where
  pub before : List Group
  pub behind : List Group
  pub is : w.tier.groups ≡ before ++ g ∷ behind
  pub rest : filter (λ h. not (is_called name h)) w.tier.groups ≡ before ++ behind
  pub settled : is_writethrough g ≡ true → w.tier.unsettled ≡ []
  pub unwritten : is_writethrough g ≡ true
      → list_all (are_off (tables_of g.def.tree)) (own_writes w.tier.sessions) ≡ true

-- it still stands, shows nothing of the group's tables, and the others as they were
pub record ShowsWithout (g : Group) (w w' : World) : Type 0 where
  pub stands : Stands w'
  pub its : (u : TableId) → covers u g ≡ true → table_at (shown_state w'.history w'.tier) u ≡ empty
  pub others : (u : TableId) → covers u g ≡ false
      → table_at (shown_state w'.history w'.tier) u ≡ table_at (shown_state w.history w.tier) u
