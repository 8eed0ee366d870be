-- Instances that a load brings. (TimesTen SQL Reference, "LOAD CACHE GROUP": WHERE and WITH ID.)

use Rattle.std.specs.Prelude.{◌≡◌, ◌<◌, ℕ, List, Bool, true, ◌&&◌, not, Some, slice_get, if◌then◌else◌}
use Rattle.std.specs.FinMap.{contains_key, entries, get, len, retain_keys}
use Rattle.row_types.specs.declared.value.Value.{Value}
use Rattle.indexed_rows.specs.Rows.{Table}
use Rattle.evaluator.specs.Writes.{selects}
use Rattle.instances.specs.Views.{is_true, kept_at, passes}
use Rattle.group_catalog.specs.Identified.{is_given}
use Rattle.group_catalog.specs.declared.which.ResolvedWhich.{ResolvedWhich}
use Rattle.group_store.specs.Stores.{Kept}

-- the rows of a table that pass a test with their keys
abbrev pub chosen : (List Value → List Value → Bool) → Table → Table
chosen test rows = retain_keys rows (λ key. passes (test key) (get rows key))

-- a root row and its key match
abbrev pub matches_at : ResolvedWhich → List Value → List Value → Bool
matches_at which key row = is_true (selects which.filter row) && is_given key which.id

-- and the store has no instance of the key
abbrev pub comes : ResolvedWhich → Kept → List Value → List Value → Bool
comes which store key row = matches_at which key row && not (contains_key (kept_at store.tables 0) key)

-- of the first n rows of a table those that pass a test with their keys
pub record Chooses (test : List Value → List Value → Bool) (table : Table) (n : ℕ) (out : Table) : Type 0 where
  pub sound : (key row : List Value) → get out key ≡ Some row → (get table key ≡ Some row) × (test key row ≡ true)
  pub whole : (i : ℕ) → i < n → (key row : List Value) → slice_get (entries table) i ≡ Some (key, row)
      → test key row ≡ true → contains_key out key ≡ true

-- how many rows of a table match, or how many come
abbrev pub counted : Bool → ResolvedWhich → Table → Table → ℕ
counted refreshes which roots coming = if refreshes then len (chosen (matches_at which) roots) else len coming
