-- Keys held by table, and marks that put keys among them. (This project's rule.)

use Rattle.std.specs.Prelude.{◌≡◌, ℕ, ◌+◌, ◌<◌, ◌^◌, Bool, List, [], ◌∷◌, Some, slice_get, slice_set, unwrap_or}
use Rattle.std.specs.FinMap.{contains_key, empty, len}
use Rattle.own_rows.specs.row_types.specs.declared.value.Value.{Value}
use Rattle.own_rows.specs.tier_base.specs.declared.number.TableId.{TableId}
use Rattle.own_rows.specs.indexed_rows.specs.Rows.{Table, put_in}
use Rattle.own_rows.specs.table_state.specs.declared.footprint.RowKey.{RowKey}
use Rattle.own_rows.specs.table_state.specs.Footprints.{is_among}
use Rattle.session_state.specs.declared.mark.Mark.{Mark}

-- the keys held of a table
abbrev pub keys_at : List Table → TableId → Table
keys_at keys t = unwrap_or (slice_get keys t.0) empty

-- the key of a mark
abbrev pub key_of_mark : Mark → RowKey
key_of_mark mark = record { table = mark.table; key = mark.key.0 }

-- a key more
abbrev pub with_mark : Mark → List Table → List Table
with_mark mark keys = slice_set keys mark.table.0 (put_in (keys_at keys mark.table) mark.key.0 mark.key.1)

-- keys more, one after another
abbrev pub with_marks : List Mark → List Table → List Table
with_marks [] keys = keys
with_marks (mark ∷ marks) keys = with_marks marks (with_mark mark keys)

-- each mark's table is there
abbrev pub AreWithin : ℕ → List Mark → Type 0
AreWithin n [] = Unit {0}
AreWithin n (mark ∷ marks) = (mark.table.0 < n) × AreWithin n marks

-- there is room for so many keys more in each table
abbrev pub KeysHaveRoom : ℕ → List Table → Type 0
KeysHaveRoom n keys = (i : ℕ) (m : Table) → slice_get keys i ≡ Some m → len m + n < 2 ^ 63

-- the key is held
abbrev pub is_held : List Table → RowKey → Bool
is_held keys key = contains_key (keys_at keys key.table) key.key

-- exactly these keys are held
abbrev pub AreKeysOf : List RowKey → List Table → Type 0
AreKeysOf keys held =
    (t : TableId) (key : List Value)
    → is_held held (record { table = t; key = key }) ≡ is_among keys (record { table = t; key = key })

-- each key's table is one of the first n
abbrev pub KeysWithin : ℕ → List RowKey → Type 0
KeysWithin n [] = Unit {0}
KeysWithin n (key ∷ keys) = (key.table.0 < n) × KeysWithin n keys
