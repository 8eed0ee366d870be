-- Logs of changed rows. (This project's rule; TimesTen Cache User's Guide, "Automatically refreshing a cache group":
-- with incremental autorefresh the changes of the backing tables are kept in change logs.)

use Rattle.std.specs.Prelude.{◌≡◌, List, [], ◌∷◌, Option, Some, None, Bool, true, false, ◌&&◌, not, nat_eq, if◌then◌else◌}
use Rattle.std.specs.List.{list_any}
use Rattle.std.specs.FinMap.{get}
use Rattle.table_state.specs.row_types.specs.declared.value.Value.{Value}
use Rattle.table_state.specs.tier_base.specs.declared.number.TableId.{TableId}
use Rattle.table_state.specs.indexed_rows.specs.Rows.{is_same}
use Rattle.table_state.specs.Copies.{is_one_of}
use Rattle.table_state.specs.Tables.{TableState, table_at}
use Rattle.change_log.specs.declared.log.RowChange.{RowChange}

-- the row of a key of a table, none where there is none
abbrev pub row_at : TableState → TableId → List Value → Option (List Value)
row_at s t key = get (table_at s t) key

-- the entry is of this key of this table
abbrev pub is_at : TableId → List Value → RowChange → Bool
is_at t key change = nat_eq t.0 change.table.0 && is_same key change.key

-- the log has an entry of this key of this table
abbrev pub is_changed : List RowChange → TableId → List Value → Bool
is_changed log t key = list_any (is_at t key) log

-- there is no row in both, or the same one
abbrev pub is_same_row : Option (List Value) → Option (List Value) → Bool
is_same_row None None = true
is_same_row None (Some b) = false
is_same_row (Some a) None = false
is_same_row (Some a) (Some b) = is_same a b

-- the row before the first entry of a key, and the row after its last one; this row where there is no entry
abbrev pub before_log : List RowChange → TableId → List Value → Option (List Value) → Option (List Value)
before_log [] t key row = row
before_log (change ∷ log) t key row = if is_at t key change then change.old else before_log log t key row

abbrev pub after_log : List RowChange → TableId → List Value → Option (List Value) → Option (List Value)
after_log [] t key row = row
after_log (change ∷ log) t key row = after_log log t key (if is_at t key change then change.new else row)

-- no two entries are of one key
abbrev pub is_once : List RowChange → Bool
is_once [] = true
is_once (change ∷ log) = not (is_changed log change.table change.key) && is_once log

-- the entry tells what became of the row of its key between two states
pub record IsChangeOf (from to : TableState) (change : RowChange) : Type 0 where
  pub old : change.old ≡ row_at from change.table change.key
  pub new : change.new ≡ row_at to change.table change.key
  pub differs : is_same_row change.old change.new ≡ false

-- each entry of a list is so
abbrev pub Each : (RowChange → Type 0) → List RowChange → Type 0
Each P [] = Unit {0}
Each P (change ∷ log) = P change × Each P log

-- What changed in these tables between two states: one entry for each key whose row differs, and no other.
pub record IsChanged (tables : List TableId) (from to : TableState) (log : List RowChange) : Type 0 where
  pub sound : Each (λ change. (is_one_of tables change.table ≡ true) × IsChangeOf from to change) log
  pub once : is_once log ≡ true
  pub whole :
      (t : TableId) (key : List Value) → is_one_of tables t ≡ true
      → is_same_row (row_at from t key) (row_at to t key) ≡ false → is_changed log t key ≡ true

-- The net of a log: one entry for each key whose row before its first entry and after its last one differ.
pub record IsNet (log net : List RowChange) : Type 0 where
  pub sound :
      Each
      (λ change.
      (is_changed log change.table change.key ≡ true)
      × (change.old ≡ before_log log change.table change.key None)
      × (change.new ≡ after_log log change.table change.key None) × (is_same_row change.old change.new ≡ false))
      net
  pub once : is_once net ≡ true
  pub whole :
      (t : TableId) (key : List Value) → is_changed log t key ≡ true
      → is_same_row (before_log log t key None) (after_log log t key None) ≡ false → is_changed net t key ≡ true
