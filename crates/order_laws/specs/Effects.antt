-- What one operation asks of a state, and what it writes. (This project's words for the SQL Reference's INSERT,
-- UPDATE, DELETE and foreign keys.)

use Rattle.std.specs.Prelude.{◌≡◌, List, Option, Some, None, true, false, is_some, length}
use Rattle.std.specs.FinMap.{get}
use Rattle.std.specs.Option.{option_and_then}
use Rattle.table_state.specs.row_types.specs.declared.value.Value.{Value}
use Rattle.table_state.specs.tier_base.specs.declared.number.TableId.{TableId}
use Rattle.table_state.specs.declared.footprint.RowKey.{RowKey}
use Rattle.table_state.specs.declared.operation.Op.{Op}
use Rattle.table_state.specs.declared.operation.Op.TheVariants.{Insert, Update, Delete}
use Rattle.table_state.specs.Tables.{TableState, has_child, table_at}
use Rattle.table_state.specs.Footprints.{is_among, referred_by, written_by}

-- the row of a table at a key
abbrev pub row_at : TableState → TableId → List Value → Option (List Value)
row_at s t key = get (table_at s t) key

-- the row that an operation leaves at its key, none where its row leaves
abbrev pub row_left_by : Op → Option (List Value)
row_left_by (Insert t row) = Some row
row_left_by (Update t old new) = Some new
row_left_by (Delete t old) = None

-- two states of one schema agree on all that the operation looks at: the rows at the keys of its footprint, and
-- whether some row names a key that it writes as its parent's
pub record AgreeFor (op : Op) (s n : TableState) : Type 0 where
  pub schema : n.schema ≡ s.schema
  pub tables : length n.tables ≡ length s.tables
  pub written : (w : RowKey) → is_among (written_by s.schema op) w ≡ true
      → row_at n w.table w.key ≡ row_at s w.table w.key
  pub referred : (w : RowKey) → is_among (referred_by s.schema op) w ≡ true
      → row_at n w.table w.key ≡ row_at s w.table w.key
  pub children : (w : RowKey) → is_among (written_by s.schema op) w ≡ true
      → has_child n w.table w.key ≡ has_child s w.table w.key

-- what an operation made of a state: its row is at each key that it writes, all other rows are as they were, and a key
-- that none of its rows names as a parent's has a child where it had one
pub record HasWritten (op : Op) (s n : TableState) : Type 0 where
  pub writes : (w : RowKey) → is_among (written_by s.schema op) w ≡ true → row_at n w.table w.key ≡ row_left_by op
  pub keeps : (w : RowKey) → is_among (written_by s.schema op) w ≡ false
      → row_at n w.table w.key ≡ row_at s w.table w.key
  pub children : (w : RowKey) → is_among (referred_by s.schema op) w ≡ false
      → has_child n w.table w.key ≡ has_child s w.table w.key

-- two partial steps leave one another alone at a state: in both orders the same comes of them, be it nothing, and the
-- second applies behind the first exactly where it applies without it
pub record LeaveAlone (first second : TableState → Option TableState) (s : TableState) : Type 0 where
  pub commute : option_and_then second (first s) ≡ option_and_then first (second s)
  pub applies : (n : TableState) → first s ≡ Some n → is_some (second n) ≡ is_some (second s)
