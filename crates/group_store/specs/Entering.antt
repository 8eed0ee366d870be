-- What operations that are committed together make of the root keys. (TimesTen Cache User's Guide, "LRU aging"; that
-- new roots of one transaction come in key order is this project's rule.)
use Rattle.std.specs.Prelude.{ℕ, List, [], ◌∷◌, ◌++◌, fold, map, not, if◌then◌else◌}
use Rattle.std.specs.List.{filter, flat_map}
use Rattle.std.specs.FinMap.{FinMap, empty, entries, from_sorted, insert, keys, remove}
use Rattle.slot_rows.specs.row_types.specs.Order.{key_order}
use Rattle.slot_rows.specs.row_types.specs.declared.value.Value.{Value}
use Rattle.slot_rows.specs.indexed_rows.specs.Rows.{Table, key_of}
use Rattle.cache_store.specs.table_state.specs.declared.operation.Op.{Op}
use Rattle.cache_store.specs.table_state.specs.declared.operation.Op.TheVariants.{Delete, Insert, Update}
use Rattle.cache_store.specs.instances.specs.Trees.{same_table}
use Rattle.cache_store.specs.Shown.{is_among}
use Rattle.group_store.specs.Stores.{Kept, ops_done}

-- keys in key order
abbrev pub Keys : Type 0
Keys = FinMap key_order (Unit {0})

-- the root keys that operations insert and leave there
abbrev pub entered_by : Kept → Op → Keys → Keys
entered_by s (Insert t row) roots = if same_table s.table t then insert roots (key_of s.key row) tt else roots
entered_by s (Update t old row) roots = roots
entered_by s (Delete t old) roots = if same_table s.table t then remove roots (key_of s.key old) else roots

abbrev pub entered : Kept → List Op → Keys
entered s ops = fold (λ roots op. entered_by s op roots) empty ops

-- the keys of these rows
abbrev pub keys_of_rows : Table → Keys
keys_of_rows rows = from_sorted (map (λ e. (e.0, tt)) (entries rows))

-- with what one operation on the root table enters, whose key is the values at these columns
abbrev pub root_entered : List ℕ → Op → Keys → Keys
root_entered columns (Insert t row) roots = insert roots (key_of columns row) tt
root_entered columns (Update t old row) roots = roots
root_entered columns (Delete t old) roots = remove roots (key_of columns old)

-- those that they delete
abbrev pub left_by : Kept → Op → List (List Value)
left_by s (Insert t row) = []
left_by s (Update t old row) = []
left_by s (Delete t old) = if same_table s.table t then key_of s.key old ∷ [] else []

-- keys come behind the others, those too that were there
abbrev pub with_entered : List (List Value) → List (List Value) → List (List Value) → List (List Value)
with_entered new left old = filter (λ key. not (is_among (left ++ new) key)) old ++ new

-- operations that are done as one: the keys of roots that they delete leave the list, and those of roots that they
-- insert come behind it, in key order
abbrev pub commit_done : List Op → Kept → Kept
commit_done ops s =
    record (ops_done ops s) { keys = with_entered (keys (entered s ops)) (flat_map (left_by s) ops) s.keys }
