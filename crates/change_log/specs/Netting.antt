-- The net of a log, made entry by entry.

use Rattle.std.specs.Prelude.{◌≡◌, List, [], ◌∷◌, ◌++◌, None, if◌then◌else◌}
use Rattle.std.specs.FinMap.{contains_key, get}
use Rattle.table_state.specs.row_types.specs.declared.value.Value.{Value}
use Rattle.table_state.specs.tier_base.specs.declared.number.TableId.{TableId}
use Rattle.table_state.specs.indexed_rows.specs.Rows.{Table}
use Rattle.change_log.specs.declared.log.RowChange.{RowChange}
use Rattle.change_log.specs.Logs.{after_log, is_changed, is_same_row}
use Rattle.change_log.specs.Tags.{tagged}

-- an entry of the net, where the row differs
abbrev pub where_it_differs : RowChange → List RowChange
where_it_differs change = if is_same_row change.old change.new then [] else change ∷ []

-- from the first entry of its key to the row behind the last one
abbrev pub to_last : List RowChange → RowChange → RowChange
to_last log change =
    record {
      table = change.table;
      key = change.key;
      old = change.old;
      new = after_log log change.table change.key None;
    }

-- of the entries left, behind those seen, each first one of a key
abbrev pub net_from : List RowChange → List RowChange → List RowChange → List RowChange
net_from log seen [] = []
net_from log seen (change ∷ rest) =
    (if is_changed seen change.table change.key then [] else where_it_differs (to_last log change))
    ++ net_from log (seen ++ change ∷ []) rest

-- the rows behind the log, by table and key
abbrev pub HoldsLast : List RowChange → Table → Type 0
HoldsLast log news = (t : TableId) (key : List Value) → get news (tagged t key) ≡ after_log log t key None

-- the keys of the log, by table
abbrev pub HoldsKeys : List RowChange → Table → Type 0
HoldsKeys log seen = (t : TableId) (key : List Value) → contains_key seen (tagged t key) ≡ is_changed log t key
