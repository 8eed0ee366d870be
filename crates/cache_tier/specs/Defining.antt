-- A group or a table that is defined. (TimesTen SQL Reference, "CREATE CACHE GROUP", "CREATE TABLE".)

use Rattle.std.specs.Prelude.{◌≡◌, List, [], ◌∷◌, None, true, false}
use Rattle.table_defs.specs.declared.definition.TableDef.{TableDef}
use Rattle.table_state.specs.Independence.{with_new}
use Rattle.table_state.specs.Tables.{TableState}
use Rattle.order_laws.specs.Sides.{IsClosed}
use Rattle.cache_tier.specs.Commits.{tables_of}
use Rattle.cache_tier.specs.Groups.{Group, is_writethrough}
use Rattle.cache_tier.specs.Shown.{shown_state}
use Rattle.cache_tier.specs.Worlds.{World}
use Rattle.cache_tier.specs.StandingBetween.{HasNoTableOf, IsCatalogued, Stands}

-- A group that may come to the catalog: the tier knows the bank's schema, in which its tree is sound; no group has a
-- table of it; where it is a writethrough one no foreign key joins its tables with others; and it shows nothing yet.
pub record IsNewGroup (w : World) (g : Group) : Type 0 where
  pub told : w.tier.stale ≡ false
  pub sound : IsCatalogued w.tier.schema g
  pub apart : HasNoTableOf w.tier.groups g
  pub closed : is_writethrough g ≡ true → IsClosed (tables_of g.def.tree) w.tier.schema
  pub first : g.first ≡ w.tier.next
  pub keys : g.keys ≡ []
  pub unloaded : g.loaded ≡ false
  pub position : g.position ≡ None

-- it still stands, and shows what was shown, with this table without rows behind the others
pub record ShowsTable (def : TableDef) (w w' : World) : Type 0 where
  pub stands : Stands w'
  pub same : shown_state w'.history w'.tier ≡ with_new def (shown_state w.history w.tier)

-- tables without rows behind the others
abbrev pub with_tables : List TableDef → TableState → TableState
with_tables [] s = s
with_tables (def ∷ defs) s = with_tables defs (with_new def s)

-- it still stands, and shows what was shown, with these tables without rows behind the others
pub record ShowsSchema (more : List TableDef) (w w' : World) : Type 0 where
  pub stands : Stands w'
  pub same : shown_state w'.history w'.tier ≡ with_tables more (shown_state w.history w.tier)
