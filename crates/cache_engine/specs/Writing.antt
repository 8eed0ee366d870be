-- The console's writes over the stored tier. (TimesTen SQL Reference, "INSERT", "UPDATE", "DELETE".)

use Rattle.std.specs.Prelude.{◌≡◌, ℕ, List, Option, Some, None, Bool, false, map, Result, Ok, Err}
use Rattle.tier_base.specs.declared.number.TableId.{TableId}
use Rattle.table_defs.specs.Names.{place_of_table}
use Rattle.row_types.specs.declared.rule.Refused.{Refused}
use Rattle.row_types.specs.declared.rule.Refused.TheVariants as refused
use Rattle.evaluator.specs.declared.change.Change.{Change}
use Rattle.resolution.specs.Writes.{change_seen, resolved_writes}
use Rattle.sql_query.specs.declared.write.Write.{Write}
use Rattle.cache_tier.specs.ConsoleSteps.{writes_fault}
use Rattle.cache_tier.specs.Groups.{is_table_of, is_writethrough}
use Rattle.cache_tier.specs.TierStates.{Tier}
use Rattle.group_catalog.specs.Catalogs.{groups_in}
use Rattle.stored_tier.specs.declared.tier.Tier.{Tier as Stored}

-- the table of a name is one of a writethrough group
abbrev pub writes_through : Stored → List ℕ → Bool
writes_through t name = of_place (place_of_table t.schema name)
  where
    of_place : Option TableId → Bool
    of_place None = false
    of_place (Some table) = is_table_of is_writethrough (groups_in t.catalog) table

-- what the writes stand for where nothing refuses them before the bank is called, or the first broken rule; memory may
-- be wanting at any time
abbrev pub JudgesWrites : Tier → List Write → Result (List Change) Refused → Type 0
JudgesWrites a writes (Ok changes) =
    (writes_fault a writes ≡ None) × (resolved_writes a.schema writes ≡ Ok (map change_seen changes))
JudgesWrites a writes (Err (refused.Rule rule)) = writes_fault a writes ≡ Some rule
JudgesWrites a writes (Err refused.Memory) = Unit {0}
