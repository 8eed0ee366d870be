-- Instances that a load gathers from the tables of a snapshot. (TimesTen SQL Reference, "LOAD CACHE GROUP", "REFRESH
-- CACHE GROUP".)

use Rattle.std.specs.Prelude.{◌≡◌, List, [], ◌∷◌, Bool, true, false, map, Result, Ok, Err}
use Rattle.std.specs.FinMap.{values}
use Rattle.tier_base.specs.declared.code.Code.TheVariants as code
use Rattle.row_types.specs.declared.rule.Refused.{Refused}
use Rattle.row_types.specs.declared.rule.Refused.TheVariants as refused
use Rattle.indexed_rows.specs.Rows.{Table}
use Rattle.table_state.specs.Tables.{TableState, table_at}
use Rattle.instances.specs.declared.tree.Tree.{Tree}
use Rattle.instances.specs.Views.{with_children}
use Rattle.group_catalog.specs.declared.which.ResolvedWhich.{ResolvedWhich}
use Rattle.group_store.specs.Stores.{Kept}
use Rattle.cache_tier.specs.Conditions.{overflows}
use Rattle.cache_tier.specs.Rules.{plain}
use Rattle.stored_tier.specs.declared.gathering.Gathered.{Gathered}
use Rattle.stored_tier.specs.Choosing.{chosen, comes, counted}

-- the root rows that come, and behind them the rows of their instances
abbrev pub coming_in : TableState → Tree → Kept → ResolvedWhich → Table
coming_in s tree store which = chosen (comes which store) (table_at s tree.root.table)

abbrev pub gathered_in : TableState → Tree → Kept → ResolvedWhich → List Table
gathered_in s tree store which = with_children s tree.children (coming_in s tree store which ∷ [])

-- the condition is 120 on some root row
abbrev pub overflows_in : TableState → Tree → ResolvedWhich → Bool
overflows_in s tree which = overflows which.filter (table_at s tree.root.table)

-- the instances that come, and their count, or that of those that match
pub record IsGathered (s : TableState) (tree : Tree) (store : Kept) (which : ResolvedWhich) (refreshes : Bool)
    (g : Gathered) : Type 0 where
  pub fits : overflows_in s tree which ≡ false
  pub rows : g.rows ≡ map values (gathered_in s tree store which)
  pub count : g.count
      ≡ counted refreshes which (table_at s tree.root.table) (coming_in s tree store which)

abbrev pub Gathers : TableState → Tree → Kept → ResolvedWhich → Bool → Result Gathered Refused → Type 0
Gathers s tree store which refreshes (Ok g) = IsGathered s tree store which refreshes g
Gathers s tree store which refreshes (Err (refused.Rule rule)) =
    (overflows_in s tree which ≡ true) × (rule ≡ plain code.Overflow)
Gathers s tree store which refreshes (Err refused.Memory) = Unit {0}
