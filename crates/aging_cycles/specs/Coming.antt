-- Stored rows of which some left, and to which others came. (This project's model.)

use Rattle.std.specs.Prelude.{◌≡◌, ◌⊎◌, ℕ, List, All, true, Some, is_some, length, slice_get}
use Rattle.std.specs.FinMap.{get}
use Rattle.tier_base.specs.declared.number.TableId.{TableId}
use Rattle.row_types.specs.declared.value.Value.{Value}
use Rattle.indexed_rows.specs.Rows.{key_of}
use Rattle.table_defs.specs.declared.definition.TableDef.{TableDef}
use Rattle.table_state.specs.Keyed.{IsKeyed}
use Rattle.table_state.specs.Operations.{applied_all}
use Rattle.table_state.specs.Tables.{fits_columns}
use Rattle.instances.specs.Views.{kept_at}
use Rattle.open_sessions.specs.Opening.{seen_all}
use Rattle.group_store.specs.Stores.{Kept, key_columns, place_in}
use Rattle.tier_statements.specs.Judging.{AreSmall}
use Rattle.stored_tier.specs.declared.tier.Tier.{Tier as Stored}
use Rattle.stored_tier.specs.Stored.{IsSound, IsVerified, rows_of}

-- a row that came to the table at a place of a store stands under its key, and fits the columns of that table
pub record HasCome (schema : List TableDef) (s : Kept) (i : ℕ) (key row : List Value) : Type 0 where
  pub key_is : key_of (key_columns s i) row ≡ key
  pub fits : (t : TableId) (def : TableDef) → place_in s t ≡ Some i → slice_get schema t.0 ≡ Some def
      → fits_columns def.columns row ≡ true

-- a store of the same tables, each of whose rows is one of the old store's, or came
pub record HasRowsOf (schema : List TableDef) (old new : Kept) : Type 0 where
  pub table : new.table ≡ old.table
  pub key : new.key ≡ old.key
  pub layers : new.layers ≡ old.layers
  pub rows : (i : ℕ) (key row : List Value) → get (kept_at new.tables i) key ≡ Some row
      → (get (kept_at old.tables i) key ≡ Some row) ⊎ HasCome schema old i key row

-- so it is of each of these stores
pub record HaveRowsOf (schema : List TableDef) (old new : List Kept) : Type 0 where
  pub long : length new ≡ length old
  pub each : (k : ℕ) (s x : Kept) → slice_get old k ≡ Some s → slice_get new k ≡ Some x → HasRowsOf schema s x

-- and of those of another tier, which has the same definitions
pub record StoresRowsOf (t new : Stored) : Type 0 where
  pub schema : new.schema ≡ t.schema
  pub stores : HaveRowsOf t.schema t.stores.items new.stores.items

-- each session's operations apply on the stored rows
abbrev pub DoApply : Stored → Type 0
DoApply t = All (λ s. is_some (applied_all s.ops (rows_of t)) ≡ true) (seen_all t.sessions)

-- such rows stand under their keys and fit their tables, where sessions may read over the old ones
abbrev pub StayKeyed : Type 0
StayKeyed = (t new : Stored) → IsSound t → IsVerified t → StoresRowsOf t new → IsKeyed (rows_of new)

-- so sessions may read over them where there are not too many, and their operations apply
abbrev pub StayVerified : Type 0
StayVerified =
    (t new : Stored) → IsSound t → IsVerified t → StoresRowsOf t new → AreSmall (rows_of new) → DoApply new
    → IsVerified new
