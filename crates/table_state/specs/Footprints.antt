-- What a transaction reads and writes, and when the order of two transactions matters. (This project's rule.)

use Rattle.std.specs.Prelude.{List, [], ◌∷◌, Option, Some, None, Bool, ◌&&◌, ◌||◌, nat_eq, slice_get}
use Rattle.std.specs.List.{flat_map, list_any}
use Rattle.table_defs.specs.row_types.specs.declared.value.Value.{Value}
use Rattle.table_defs.specs.tier_base.specs.declared.number.TableId.{TableId}
use Rattle.table_defs.specs.declared.definition.ForeignKey.{ForeignKey}
use Rattle.table_defs.specs.declared.definition.TableDef.{TableDef}
use Rattle.table_state.specs.declared.footprint.Footprint.{Footprint}
use Rattle.table_state.specs.declared.footprint.RowKey.{RowKey}
use Rattle.table_state.specs.declared.operation.Op.{Op}
use Rattle.table_state.specs.declared.operation.Op.TheVariants.{Insert, Update, Delete}
use Rattle.table_state.specs.Operations.{table_of}
use Rattle.indexed_rows.specs.Rows.{is_same, key_of}

-- the rows of an operation, old and new
abbrev pub rows_of : Op → List (List Value)
rows_of (Insert t row) = row ∷ []
rows_of (Update t old new) = old ∷ new ∷ []
rows_of (Delete t old) = old ∷ []

-- the key of a row
abbrev pub written_key : TableId → Option TableDef → List Value → List RowKey
written_key t None row = []
written_key t (Some def) row = record { table = t; key = key_of def.primary_key row } ∷ []

abbrev pub parent_key : Option ForeignKey → List Value → List RowKey
parent_key None row = []
parent_key (Some foreign) row = record { table = foreign.parent; key = key_of foreign.columns row } ∷ []

-- the key of the parent that a row names
abbrev pub referred_key : Option TableDef → List Value → List RowKey
referred_key None row = []
referred_key (Some def) row = parent_key def.foreign_key row

-- the keys of all rows of an operation
abbrev pub written_by : List TableDef → Op → List RowKey
written_by schema op = flat_map (written_key (table_of op) (slice_get schema (table_of op).0)) (rows_of op)

-- the keys of the parents that they name
abbrev pub referred_by : List TableDef → Op → List RowKey
referred_by schema op = flat_map (referred_key (slice_get schema (table_of op).0)) (rows_of op)

-- the keys that the operations write, and those of the parents that their rows name
abbrev pub footprint_of : List TableDef → List Op → Footprint
footprint_of schema ops =
    record { written = flat_map (written_by schema) ops; referred = flat_map (referred_by schema) ops }

abbrev pub same_row_key : RowKey → RowKey → Bool
same_row_key a b = nat_eq a.table.0 b.table.0 && is_same a.key b.key

abbrev pub is_among : List RowKey → RowKey → Bool
is_among keys key = list_any (same_row_key key) keys

abbrev pub is_in : Footprint → RowKey → Bool
is_in f key = is_among f.written key || is_among f.referred key

-- a key is in both, and written in one
abbrev pub conflict : Footprint → Footprint → Bool
conflict f g = list_any (is_in g) f.written || list_any (is_in f) g.written
