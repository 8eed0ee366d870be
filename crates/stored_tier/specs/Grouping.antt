-- Groups that come and go, with their stores. (TimesTen SQL Reference, "CREATE CACHE GROUP", "DROP CACHE GROUP".)

use Rattle.std.specs.Prelude.{◌≡◌, ℕ, suc, List, [], length, map, take}
use Rattle.std.specs.FinMap.{empty}
use Rattle.table_defs.specs.declared.definition.TableDef.{TableDef}
use Rattle.instances.specs.declared.tree.Tree.{Tree}
use Rattle.instances.specs.Views.{kept_at}
use Rattle.group_catalog.specs.Catalogs.{groups_in}
use Rattle.group_store.specs.Keeping.{IsFor, layer_for, primary_of}
use Rattle.group_store.specs.Shown.{foreign_key_of, homes_of}
use Rattle.group_store.specs.Stores.{Kept}
use Rattle.slot_rows.specs.SlotKeys.{RowsHeld}
use Rattle.cache_tier.specs.Groups.{Group}
use Rattle.stored_tier.specs.declared.tier.Tier.{Tier as Stored}
use Rattle.stored_tier.specs.Stored.{named_where_cached}

-- a store of a tree without rows
pub record IsBareStore (schema : List TableDef) (tree : Tree) (s : Kept) : Type 0 where
  pub form : IsFor schema tree s
  pub whole : length s.tables ≡ suc (length s.layers)
  pub rows : (place : ℕ) → kept_at s.tables place ≡ empty
  pub keys : s.keys ≡ []

-- beside groups, their rows and the names of their tables nothing changes
pub record KeepsBesideGroups (t new : Stored) : Type 0 where
  pub schema : new.schema ≡ t.schema
  pub stale : new.stale ≡ t.stale
  pub sessions : new.sessions ≡ t.sessions
  pub unsettled : new.unsettled ≡ t.unsettled
  pub writers : new.writers ≡ t.writers
  pub next : new.next ≡ t.next
  pub clock : new.clock ≡ t.clock

-- these are the groups, their stores and their hidden rows now; tables are named and found by them
pub record HasGroups (t new : Stored) (all : List Group) (kept : List Kept) (rows : List RowsHeld) : Type 0 where
  pub beside : KeepsBesideGroups t new
  pub groups : groups_in new.catalog ≡ all
  pub stores : new.stores.items ≡ kept
  pub hidden : new.hidden.items ≡ rows
  pub visible : new.visible ≡ named_where_cached all t.schema
  pub directory : new.directory ≡ homes_of kept (length t.schema)

-- all is stored as it was
pub record KeepsGroups (t new : Stored) : Type 0 where
  pub beside : KeepsBesideGroups t new
  pub groups : groups_in new.catalog ≡ groups_in t.catalog
  pub stores : new.stores.items ≡ t.stores.items
  pub hidden : new.hidden.items ≡ t.hidden.items
  pub visible : new.visible ≡ t.visible
  pub directory : new.directory ≡ t.directory
  pub verified : new.verified ≡ t.verified

-- a store of a tree's root and so many of its children, without rows
pub record IsPartFor (schema : List TableDef) (tree : Tree) (n : ℕ) (s : Kept) : Type 0 where
  pub table : s.table ≡ tree.root.table
  pub key : s.key ≡ primary_of schema tree.root.table
  pub foreign : s.foreign ≡ foreign_key_of schema tree.root.table
  pub layers : s.layers ≡ map (layer_for schema) (take n tree.children)
  pub whole : length s.tables ≡ suc (length s.layers)
  pub rows : (place : ℕ) → kept_at s.tables place ≡ empty
  pub keys : s.keys ≡ []

-- a store of the same tree
pub record SameTree (old new : Kept) : Type 0 where
  pub table : new.table ≡ old.table
  pub key : new.key ≡ old.key
  pub foreign : new.foreign ≡ old.foreign
  pub layers : new.layers ≡ old.layers
