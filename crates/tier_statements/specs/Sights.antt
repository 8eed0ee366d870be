-- The tables that a session sees at level 0, and names that stand for them. (TimesTen Cache User's Guide, "Setting a
-- passthrough level".)

use Rattle.std.specs.Prelude.{◌≡◌, ℕ, List, All, true, not, None, is_some, Result, Ok, Err}
use Rattle.tier_base.specs.declared.code.Code.TheVariants as code
use Rattle.row_types.specs.declared.rule.Refused.{Refused}
use Rattle.row_types.specs.declared.rule.Refused.TheVariants as refused
use Rattle.table_defs.specs.declared.definition.TableDef.{TableDef}
use Rattle.table_defs.specs.Names.{place_of_table}
use Rattle.evaluator.specs.Rules.{about}
use Rattle.resolution.specs.Scopes.{table_named, tables_of}
use Rattle.sql_query.specs.declared.query.FromTable.{FromTable}
use Rattle.cache_tier.specs.Groups.{Group, is_table_of}
use Rattle.cache_tier.specs.Routes.{hidden_where}

-- the definitions of which those alone have their names whose tables some group has
abbrev pub cached_alone : List Group → List TableDef → List TableDef
cached_alone groups schema = hidden_where (λ table. not (is_table_of (λ g. true) groups table)) 0 schema

-- the name stands for one table in both lists of definitions, with one definition
pub record StandsForOne (seen schema : List TableDef) (name : List ℕ) : Type 0 where
  pub table : place_of_table seen name ≡ place_of_table schema name
  pub definition : table_named seen name ≡ table_named schema name
  pub there : is_some (place_of_table seen name) ≡ true

-- the name stands for the same table in both, or 102 in the first one; memory may be wanting at any time
abbrev pub FindsTable : List TableDef → List TableDef → List ℕ → Result (Unit {0}) Refused → Type 0
FindsTable seen schema name (Ok u) = StandsForOne seen schema name
FindsTable seen schema name (Err (refused.Rule rule)) =
    (place_of_table seen name ≡ None) × (rule ≡ about code.UnknownTable name)
FindsTable seen schema name (Err refused.Memory) = Unit {0}

-- the same of the tables in FROM: 102 of the first that there isn't
abbrev pub FindsTables : List TableDef → List TableDef → List FromTable → Result (Unit {0}) Refused → Type 0
FindsTables seen schema tables (Ok u) = All (λ f. StandsForOne seen schema f.table) tables
FindsTables seen schema tables (Err (refused.Rule rule)) = tables_of seen tables ≡ Err rule
FindsTables seen schema tables (Err refused.Memory) = Unit {0}
