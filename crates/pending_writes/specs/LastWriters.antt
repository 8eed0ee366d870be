-- The last transaction that wrote a key, of those that wait for their receipt. (That an INSERT's key is sought in what
-- is pending, before it is sought at the backing database, is this project's rule.)

use Rattle.std.specs.Prelude.{List, [], ◌∷◌, Option, Some, None, Bool, true, false, if◌then◌else◌}
use Rattle.std.specs.Option.{option_map, option_or}
use Rattle.table_state.specs.row_types.specs.declared.value.Value.{Value}
use Rattle.table_state.specs.tier_base.specs.declared.number.TableId.{TableId}
use Rattle.table_state.specs.table_defs.specs.declared.definition.TableDef.{TableDef}
use Rattle.table_state.specs.declared.footprint.RowKey.{RowKey}
use Rattle.table_state.specs.declared.history.Sealed.{Sealed}
use Rattle.table_state.specs.declared.operation.Op.{Op}
use Rattle.table_state.specs.declared.operation.Op.TheVariants.{Insert, Update, Delete}
use Rattle.table_state.specs.Footprints.{is_among, written_by, written_key}
use Rattle.pending_writes.specs.declared.writers.Writer.{Writer}

-- an operation leaves a row
abbrev pub leaves : Op → Bool
leaves (Insert t row) = true
leaves (Update t old new) = true
leaves (Delete t old) = false

-- whether an operation leaves a row at a key, where it writes the key
abbrev pub left_at : List TableDef → RowKey → Op → Option Bool
left_at schema k op = if is_among (written_by schema op) k then Some (leaves op) else None

-- whether the last of the operations that write the key leaves a row there; none where no operation writes it
abbrev pub last_left : List TableDef → RowKey → List Op → Option Bool
last_left schema k [] = None
last_left schema k (op ∷ ops) = option_or (last_left schema k ops) (left_at schema k op)

-- the transaction, where it writes the key
abbrev pub writer_at : List TableDef → RowKey → Sealed → Option Writer
writer_at schema k x = option_map (λ b. record { ticket = x.ticket; leaves = b }) (last_left schema k x.ops)

-- the last of the transactions that write the key
abbrev pub last_writer : List TableDef → RowKey → List Sealed → Option Writer
last_writer schema k [] = None
last_writer schema k (x ∷ xs) = option_or (last_writer schema k xs) (writer_at schema k x)

-- a row of a table with its key, and whether a row is left there
abbrev pub left_by_row : RowKey → TableId → Option TableDef → List Value → Bool → Option Bool
left_by_row k table def row leaves = if is_among (written_key table def row) k then Some leaves else None
