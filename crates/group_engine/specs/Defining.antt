-- Which definitions of groups are done. (This project's rule.)

use Rattle.std.specs.Prelude.{◌≡◌, List, [], ◌∷◌, ◌++◌, Option, None, Bool, true, false, ◌||◌, not, is_none}
use Rattle.table_defs.specs.declared.definition.TableDef.{TableDef}
use Rattle.sql_subset.specs.declared.stmt.CreateGroup.{CreateGroup}
use Rattle.instances.specs.Trees.{is_sound}
use Rattle.group_catalog.specs.Catalogs.{groups_in}
use Rattle.group_store.specs.Stores.{Kept}
use Rattle.slot_rows.specs.SlotKeys.{RowsHeld}
use Rattle.cache_tier.specs.Undone.{is_user_managed}
use Rattle.cache_tier.specs.Definitions.{IsTreeOf, defined_by, definition_broken, is_read_only_kind, new_group, placed_tables, text_of}
use Rattle.cache_tier.specs.Groups.{definitions_of}
use Rattle.cache_tier.specs.declared.group.GroupDef.{GroupDef}
use Rattle.cache_tier.specs.StandingBetween.{foreign_key_in}
use Rattle.sql_subset.specs.declared.stmt.Stmt.TheVariants as statement
use Rattle.tier_base.specs.declared.number.SessionId.{SessionId}
use Rattle.cache_tier.specs.Journals.{Defines}
use Rattle.cache_tier.specs.Order.{refusal}
use Rattle.cache_tier.specs.TierStates.{Session, Tier}
use Rattle.tier_journal.specs.declared.journal.TierJournal.{TierJournal}
use Rattle.group_engine.specs.declared.ready.Ready.{Ready}
use Rattle.group_engine.specs.Ready.{IsReadyFor}
use Rattle.stored_tier.specs.Stored.{HasSession, IsStoredAs}
use Rattle.stored_tier.specs.declared.tier.Tier.{Tier as Stored}
use Rattle.stored_tier.specs.Filling.{HidesNone}
use Rattle.stored_tier.specs.Grouping.{HasGroups, IsBareStore}

-- the tier does groups of this definition: they aren't user-managed
abbrev pub is_done : GroupDef → Bool
is_done def = not (is_user_managed def.kind)

-- where it is a writethrough group its root refers to no table
abbrev pub is_free : List TableDef → GroupDef → Bool
is_free schema def = is_read_only_kind def.kind || is_none (foreign_key_in schema def.tree.root.table)

-- the definition breaks no rule over what is stored, it is what is made of the statement, and the tier does it
pub record IsDefinition (t : Stored) (d : CreateGroup) (def : GroupDef) : Type 0 where
  pub writes : Bool
  pub known : t.stale ≡ false
  pub unbroken : definition_broken t.schema (definitions_of (groups_in t.catalog)) writes d ≡ None
  pub is : def ≡ defined_by t.schema d def.tree
  pub tree_of : IsTreeOf (placed_tables t.schema d) def.tree
  pub formed : is_sound t.schema def.tree ≡ true
  pub done : is_done def ≡ true
  pub free : is_free t.schema def ≡ true

-- its group came, with a store without rows, and none that are hidden
pub record HasNewGroup (t new : Stored) (d : CreateGroup) (def : GroupDef) : Type 0 where
  pub store : Kept
  pub hidden : RowsHeld
  pub bare : IsBareStore t.schema def.tree store
  pub none : HidesNone t.schema (new_group t.next t.clock.now d def) 0 hidden
  pub has :
      HasGroups t new (groups_in t.catalog ++ new_group t.next t.clock.now d def ∷ []) (t.stores.items ++ store ∷ [])
      (t.hidden.items ++ hidden ∷ [])
  pub unverified : new.verified ≡ false

-- what was made ready for a definition
abbrev pub IsReadyToCreate : Option TierJournal → CreateGroup → Ready → Type 0
IsReadyToCreate k d ready = (schema : List TableDef) → IsReadyFor schema k ready (Defines d (text_of d) ∷ [])

-- nothing refuses the definition
abbrev pub IsUnrefused : Stored → SessionId → CreateGroup → Type 0
IsUnrefused t id d =
    (a : Tier) (s : Session) → IsStoredAs t a → HasSession t id s → refusal a s (statement.CreateGroup d) ≡ None
