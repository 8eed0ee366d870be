-- Why the net of a log is what changed.

use Rattle.std.specs.Prelude.{◌≡◌, ℕ, List, ◌++◌, Some, drop}
use Rattle.table_state.specs.tier_base.specs.declared.number.TableId.{TableId}
use Rattle.table_state.specs.declared.history.Entry.{Entry}
use Rattle.table_state.specs.declared.operation.Op.{Op}
use Rattle.table_state.specs.Histories.{state_at, state_from, state_of}
use Rattle.table_state.specs.Operations.{applied}
use Rattle.table_state.specs.Tables.{TableState}
use Rattle.change_log.specs.declared.log.RowChange.{RowChange}
use Rattle.change_log.specs.Logs.{IsChanged, IsNet}
use Rattle.change_log.specs.Steps.{IsStep, Leads, change_of, logged_from, logged_over, of_tables}

-- the entry of an operation leads from the state before to the one behind
abbrev pub OperationLeads : Type 0
OperationLeads =
    (op : Op) (from to : TableState) → applied op from ≡ Some to → IsStep (change_of from.schema op) from to

-- so does the log of a history
abbrev pub HistoryLeads : Type 0
HistoryLeads =
    (entries : List Entry) (from to : TableState) → state_from entries from ≡ Some to
    → Leads (logged_from entries (Some from)) from to

-- logs of consecutive steps, one behind the other
abbrev pub LogsAppend : Type 0
LogsAppend =
    (first later : List RowChange) (from between to : TableState) → Leads first from between → Leads later between to
    → Leads (first ++ later) from to

-- the net of the log between two states, in some tables, is what changed in them
abbrev pub NetIsChanged : Type 0
NetIsChanged =
    (tables : List TableId) (log net : List RowChange) (from to : TableState) → Leads log from to
    → IsNet (of_tables tables log) net → IsChanged tables from to net

-- the log of a history behind a position is the end of the whole log
abbrev pub LogSplits : Type 0
LogSplits =
    (first later : List Entry) (s : TableState)
    → logged_from (first ++ later) (Some s) ≡ logged_from first (Some s) ++ logged_from later (state_from first s)

-- the log of a history is that over the definitions that stand behind it
abbrev pub LogIsOver : Type 0
LogIsOver =
    (entries : List Entry) (from to : TableState) → state_from entries from ≡ Some to
    → logged_from entries (Some from) ≡ logged_over to.schema entries

-- so the net of the log behind a position, in some tables, is what changed in them since then
abbrev pub HistoryNets : Type 0
HistoryNets =
    (history : List Entry) (since : ℕ) (tables : List TableId) (net : List RowChange) (from to : TableState)
    → state_at history since ≡ Some from → state_of history ≡ Some to
    → IsNet (of_tables tables (logged_over to.schema (drop since history))) net → IsChanged tables from to net
