-- What the backing database tells of a transaction that doesn't apply. (This project's rule.)

use Rattle.std.specs.Prelude.{◌≡◌, List, [], ◌∷◌, Option, Some, None, slice_get, unwrap_or}
use Rattle.std.specs.FinMap.{get}
use Rattle.std.specs.Option.{option_and_then, option_map, option_or}
use Rattle.tier_base.specs.declared.number.TableId.{TableId}
use Rattle.row_types.specs.declared.rule.Detail.{Detail}
use Rattle.row_types.specs.declared.rule.Detail.TheVariants as detail
use Rattle.row_types.specs.declared.value.Value.{Value}
use Rattle.table_defs.specs.declared.definition.TableDef.{TableDef}
use Rattle.table_state.specs.declared.history.Entry.{Entry}
use Rattle.table_state.specs.declared.operation.Op.{Op}
use Rattle.table_state.specs.declared.operation.Op.TheVariants.{Insert, Update, Delete}
use Rattle.table_state.specs.declared.refusal.ApplyError.{ApplyError}
use Rattle.table_state.specs.declared.refusal.ApplyError.TheVariants as error
use Rattle.table_state.specs.Histories.{state_of}
use Rattle.table_defs.specs.Names.{place_of_table}
use Rattle.table_state.specs.Operations.{applied, table_of}
use Rattle.table_state.specs.Refusals.{broken_by}
use Rattle.indexed_rows.specs.Rows.{key_of}
use Rattle.table_state.specs.Tables.{TableState, table_at}

-- the row that an operation puts in, changes or takes out
abbrev pub row_of : Op → List Value
row_of (Insert t row) = row
row_of (Update t old new) = old
row_of (Delete t old) = old

abbrev pub key_in : Option TableDef → List Value → List Value
key_in None row = []
key_in (Some def) row = key_of def.primary_key row

-- the key of that row, none where the table isn't there
abbrev pub own_key : Op → TableState → List Value
own_key op s = key_in (slice_get s.schema (table_of op).0) (row_of op)

-- a table and a key of it
abbrev pub Place : Type 0
Place = TableId × List Value

-- The row that a broken rule names: for 107 the row with the key, for 108 the missing parent, for 109 the least child
-- of the first table that has one. Where it names none, the operation's own.
abbrev pub place_of : Op → TableState → Detail → Place
place_of op s (detail.Row name key) = (unwrap_or (place_of_table s.schema name) (table_of op), key)
place_of op s other = (table_of op, own_key op s)

-- a row that isn't as an operation wants it: its table, its key, and the row that is there
abbrev pub Difference : Type 0
Difference = TableId × List Value × Option (List Value)

abbrev pub difference_at : Place → TableState → Difference
difference_at place s = (place.0, place.1, get (table_at s place.0) place.1)

-- what is told of an operation that doesn't apply
abbrev pub difference_of : Op → TableState → ApplyError → Difference
difference_of op s (error.Rule rule) = difference_at (place_of op s rule.detail) s
difference_of op s (error.Differs t key row) = (t, key, row)
difference_of op s error.Memory = difference_at (table_of op, own_key op s) s

-- of the first operation that doesn't apply behind those before it
abbrev pub first_difference : List Op → TableState → Option Difference
first_difference [] s = None
first_difference (op ∷ ops) s =
    option_or (option_map (difference_of op s) (broken_by op s)) (option_and_then (first_difference ops) (applied op s))

-- this is the first difference between the operations and the tables that the history leaves
abbrev pub IsFirstDifference : Difference → List Op → List Entry → Type 0
IsFirstDifference difference ops history =
    (s : TableState) → state_of history ≡ Some s → first_difference ops s ≡ Some difference
