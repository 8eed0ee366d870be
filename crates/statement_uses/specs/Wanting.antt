-- The instance that a statement wants, as code sees it. (TimesTen Cache User's Guide, "Dynamically loading a cache
-- instance".)

use Rattle.std.specs.Prelude.{◌≡◌, List}
use Rattle.table_defs.specs.declared.definition.TableDef.{TableDef}
use Rattle.cache_tier.specs.Groups.{Group, definitions_of}
use Rattle.cache_tier.specs.TierStates.{Tier}
use Rattle.cache_tier.specs.Wants as wants
use Rattle.statement_uses.specs.declared.wanting.Want.{Want}

-- as a reader of the tier sees it
abbrev pub want_seen : Want → wants.Want
want_seen want = record { table = want.table; key = want.key }

-- the tier has these definitions of tables and of groups
pub record HasDefinitions (schema : List TableDef) (groups : List Group) (t : Tier) : Type 0 where
  pub tables : t.schema ≡ schema
  pub catalog : definitions_of t.groups ≡ definitions_of groups
