-- What changed, table by table.

use Rattle.std.specs.Prelude.{List, [], ◌∷◌, ◌++◌, Some, None, if◌then◌else◌}
use Rattle.std.specs.FinMap.{contains_key, entries, get}
use Rattle.table_state.specs.row_types.specs.declared.value.Value.{Value}
use Rattle.table_state.specs.tier_base.specs.declared.number.TableId.{TableId}
use Rattle.table_state.specs.indexed_rows.specs.Rows.{Table}
use Rattle.table_state.specs.Copies.{is_one_of}
use Rattle.table_state.specs.Tables.{TableState, table_at}
use Rattle.change_log.specs.declared.log.RowChange.{RowChange}
use Rattle.change_log.specs.Netting.{where_it_differs}

-- of the entries of a table those whose row is another in the new table, or isn't there
abbrev pub left_changes : TableId → Table → List (List Value × List Value) → List RowChange
left_changes t new [] = []
left_changes t new (e ∷ es) =
    where_it_differs (record { table = t; key = e.0; old = Some e.1; new = get new e.0 }) ++ left_changes t new es

-- of the entries of the new table those whose key had no row
abbrev pub new_changes : TableId → Table → List (List Value × List Value) → List RowChange
new_changes t old [] = []
new_changes t old (e ∷ es) =
    (if contains_key old e.0 then [] else record { table = t; key = e.0; old = None; new = Some e.1 } ∷ [])
    ++ new_changes t old es

abbrev pub table_changes : TableId → Table → Table → List RowChange
table_changes t old new = left_changes t new (entries old) ++ new_changes t old (entries new)

-- of the tables left, behind those seen, each once
abbrev pub changes_from : TableState → TableState → List TableId → List TableId → List RowChange
changes_from from to seen [] = []
changes_from from to seen (t ∷ rest) =
    (if is_one_of seen t then [] else table_changes t (table_at from t) (table_at to t))
    ++ changes_from from to (seen ++ t ∷ []) rest
