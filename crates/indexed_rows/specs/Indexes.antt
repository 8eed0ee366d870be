-- An index of rows by parent: an entry for each row, by the parent's key with the row's own key behind it.

use Rattle.std.specs.Prelude.{◌≡◌, ◌≢◌, ℕ, List, [], ◌++◌, Option, Some, None, true, ◌&&◌, drop, length, nat_le, take, if◌then◌else◌}
use Rattle.std.specs.declared.cmp.Ordering.TheVariants.{Less}
use Rattle.std.specs.FinMap.{contains_key, get, remove}
use Rattle.row_types.specs.declared.value.Value.{Value}
use Rattle.row_types.specs.Order.{key_order}
use Rattle.indexed_rows.specs.declared.parents.Parents.{Parents}
use Rattle.indexed_rows.specs.Rows.{put_in, Table, is_same, key_of}

-- what a row's entry stands by
abbrev pub entry_of : Parents → List Value → List Value → List Value
entry_of parents key row = key_of parents.columns row ++ key

-- the entry is that of one of the rows
pub record IsEntryIn (parents : Parents) (rows : Table) (entry : List Value) : Type 0 where
  pub key : List Value
  pub row : List Value
  pub there : get rows key ≡ Some row
  pub is : entry ≡ entry_of parents key row

-- each row has an entry, and there are no others
pub record IsIndexOf (parents : Parents) (rows : Table) : Type 0 where
  pub has : (key row : List Value) → get rows key ≡ Some row
      → contains_key parents.entries (entry_of parents key row) ≡ true
  pub only : (entry : List Value) → contains_key parents.entries entry ≡ true → IsEntryIn parents rows entry

-- where there is an index, it is that of the rows
abbrev pub IsIndexed : Option Parents → Table → Type 0
IsIndexed None rows = Unit {0}
IsIndexed (Some parents) rows = IsIndexOf parents rows

-- the index with an entry more
abbrev pub with_entry : List Value → Parents → Parents
with_entry entry parents = record { columns = parents.columns; entries = put_in parents.entries entry [] }

-- the index without an entry
abbrev pub without_entry : List Value → Parents → Parents
without_entry entry parents = record { columns = parents.columns; entries = remove parents.entries entry }

-- what stands behind the front of so many values, where this is the front
abbrev pub behind : List Value → ℕ → List Value → Option (List Value)
behind values count front =
    if nat_le count (length values) && is_same (take count values) front then Some (drop count values) else None

-- this is the key of the first row of the parent whose key isn't below the least
pub record IsFirst (columns : List ℕ) (rows : Table) (parent least key : List Value) : Type 0 where
  pub row : List Value
  pub there : get rows key ≡ Some row
  pub child : key_of columns row ≡ parent
  pub from : key_order key least ≢ Less
  pub first : (other row : List Value) → get rows other ≡ Some row → key_of columns row ≡ parent
      → key_order other least ≢ Less → key_order other key ≢ Less

-- the key of the first row of the parent whose key isn't below the least, where there is such a row
abbrev pub IsFirstOf : List ℕ → Table → List Value → List Value → Option (List Value) → Type 0
IsFirstOf columns rows parent least (Some key) = IsFirst columns rows parent least key
IsFirstOf columns rows parent least None = (key row : List Value) → get rows key ≡ Some row
    → key_of columns row ≡ parent → key_order key least ≡ Less
