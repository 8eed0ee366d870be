-- A schema that the stored tier learns, and whether it has to ask for one. (This project's rule: a definition never
-- leaves, and a new table stands behind the others.)

use Rattle.std.specs.Prelude.{◌≡◌, ℕ, List, Option, Some, None, Bool, true, false, not, ◌&&◌, length}
use Rattle.std.specs.List.{list_any}
use Rattle.tier_base.specs.declared.number.TableId.{TableId}
use Rattle.table_defs.specs.Names.{place_of_table}
use Rattle.table_defs.specs.declared.definition.TableDef.{TableDef}
use Rattle.group_catalog.specs.Catalogs.{groups_in}
use Rattle.group_store.specs.declared.directory.Home.{Home}
use Rattle.sql_subset.specs.declared.request.Line.{Line}
use Rattle.cache_tier.specs.ConsoleSteps.{names_of_line}
use Rattle.cache_tier.specs.Groups.{is_table_of}
use Rattle.cache_tier.specs.Defining.{with_tables}
use Rattle.stored_tier.specs.declared.tier.Tier.{Tier as Stored}
use Rattle.tier_journal.specs.Ways.{HasBecome}
use Rattle.stored_tier.specs.Naming.{AreNamed, HasNoHome}
use Rattle.stored_tier.specs.Stored.{rows_of}

-- The names and homes are those of a schema that begins with the known one, and no table that is new has a home.
pub record MayLearn (t : Stored) (schema names : List TableDef) (homes : List (Option Home)) : Type 0 where
  pub front : HasBecome t.schema schema
  pub named : AreNamed (groups_in t.catalog) t.stores.items schema names homes
  pub apart : HasNoHome homes (length t.schema) (length schema)

-- the tier knows this schema, and shows the tables that are new without rows
pub record Learns (old new : Stored) (schema : List TableDef) : Type 0 where
  pub front : HasBecome old.schema schema
  pub kept : new ≡ record old {
    schema = schema;
    stale = false;
    visible = new.visible;
    directory = new.directory;
    verified = false;
  }
  pub rows : rows_of new ≡ with_tables front.more (rows_of old)

-- the table of a name isn't cached
abbrev pub misses : Stored → List ℕ → Bool
misses t name = not (of_place (place_of_table t.schema name))
  where
    of_place : Option TableId → Bool
    of_place None = false
    of_place (Some table) = is_table_of (λ g. true) (groups_in t.catalog) table

-- a definition has failed since the schema was told, and the line names a table that isn't cached
abbrev pub has_to_ask : Stored → Line → Bool
has_to_ask t line = t.stale && list_any (misses t) (names_of_line line)
