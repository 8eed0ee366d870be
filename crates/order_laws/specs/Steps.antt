-- What may happen to committed transactions over a history, and what each event asks. (This project's rule; what comes
-- at once is, in the TimesTen Cache User's Guide, a synchronous writethrough or a passed-through transaction.)

use Rattle.std.specs.Prelude.{◌≡◌, ℕ, ◌+◌, ◌≤◌, List, [], ◌∷◌, ◌++◌, Some, true, false}
use Rattle.table_state.specs.table_defs.specs.declared.definition.TableDef.{TableDef}
use Rattle.table_state.specs.declared.history.Entry.{Entry}
use Rattle.table_state.specs.declared.history.Entry.TheVariants.{Definition, Foreign, Own}
use Rattle.table_state.specs.declared.history.Sealed.{Sealed}
use Rattle.table_state.specs.declared.operation.Op.{Op}
use Rattle.table_state.specs.Histories.{entry_of, has_ticket, state_of}
use Rattle.table_state.specs.Operations.{applied_all}
use Rattle.table_state.specs.Tables.{TableState}
use Rattle.order_laws.specs.Commits.{IsInLog, IsLegal, LiveGroup, MayCome, NoneConflicts, Once, conflicting, is_other, of_group, ops_conflict, ops_on, pending}
use Rattle.order_laws.specs.Sides.{IsClosed, are_off, are_on}
use Rattle.order_laws.specs.Standing.{AreClosed, HasGroup, Progress, StandOver, all_off, live_tables, progress_of}

-- before all: a history that leaves a state, each ticket in it once and below the next one; no group, no transaction
pub record MayBegin (history : List Entry) (next : ℕ) : Type 0 where
  pub state : TableState
  pub leaves : state_of history ≡ Some state
  pub once : Once history
  pub first : 1 ≤ next
  pub below : (t : ℕ) → next ≤ t → has_ticket t history ≡ false

abbrev pub at_begin : List Entry → ℕ → Progress
at_begin history next = progress_of [] history [] next

-- entries come
abbrev pub after_entries : Progress → List Entry → Progress
after_entries p entries = progress_of p.groups (p.history ++ entries) p.log p.next

-- a transaction is the last of the log
abbrev pub longer_by : Progress → Sealed → Progress
longer_by p s = progress_of p.groups p.history (p.log ++ s ∷ []) p.next

abbrev pub with_next : Progress → ℕ → Progress
with_next p next = progress_of p.groups p.history p.log next

-- a transaction commits, and is pending then
abbrev pub after_committing : Progress → Sealed → Progress
after_committing p s = with_next (longer_by p s) (s.ticket.0 + 1)

-- a transaction commits and comes at once
abbrev pub after_coming : Progress → Sealed → Progress
after_coming p s = after_entries (after_committing p s) (entry_of s ∷ [])

-- no pending transaction conflicts with it
abbrev pub MeetsNone : (p : Progress) → StandOver p → Sealed → Type 0
MeetsNone p over s = NoneConflicts over.backing.schema (pending p.history p.log) s

-- its ticket is the next one or above, it applies to the virtual state, and it is on live tables
pub record MayCommit (p : Progress) (over : StandOver p) (s : Sealed) (virtual : TableState) : Type 0 where
  pub ticket : p.next ≤ s.ticket.0
  pub leads : applied_all s.ops over.virtual ≡ Some virtual
  pub live : are_on (live_tables p.groups) s.ops ≡ true

-- its ticket is the next one or above, it applies to the virtual state, and no pending transaction conflicts with it
pub record MayComeAtOnce (p : Progress) (over : StandOver p) (s : Sealed) (virtual : TableState) : Type 0 where
  pub ticket : p.next ≤ s.ticket.0
  pub leads : applied_all s.ops over.virtual ≡ Some virtual
  pub meets : MeetsNone p over s

-- a pending transaction may come next, as the schema of the backing state has it
abbrev pub ComesNext : (p : Progress) → StandOver p → Sealed → Type 0
ComesNext p over s = MayCome (conflicting over.backing.schema) p.history p.log s

-- operations of others: they apply to the backing state, and are on no live table
pub record AreOfOthers (p : Progress) (over : StandOver p) (ops : List Op) : Type 0 where
  pub backing : TableState
  pub leads : applied_all ops over.backing ≡ Some backing
  pub off : are_off (live_tables p.groups) ops ≡ true

-- entries of a round: transactions of the log, and those of others on no live table
abbrev pub AreRoundEntries : List LiveGroup → List Sealed → List Entry → Type 0
AreRoundEntries groups log [] = Unit {0}
AreRoundEntries groups log (Definition def ∷ entries) = ⊥
AreRoundEntries groups log (Foreign ops ∷ entries) =
    (are_off (live_tables groups) ops ≡ true) × AreRoundEntries groups log entries
AreRoundEntries groups log (Own ticket ops ∷ entries) =
    IsInLog log (record { ticket = ticket; ops = ops }) × AreRoundEntries groups log entries

-- a round: such entries come, the history behind them leaves a state and is legal
pub record IsRound (p : Progress) (over : StandOver p) (entries : List Entry) : Type 0 where
  pub state : TableState
  pub leaves : state_of (p.history ++ entries) ≡ Some state
  pub kinds : AreRoundEntries p.groups p.log entries
  pub legal : IsLegal (conflicting over.backing.schema) (p.history ++ entries) p.log

-- no foreign key of the table joins a live group's tables with others
abbrev pub JoinsNone : (p : Progress) → StandOver p → TableDef → Type 0
JoinsNone p over def = AreClosed p.groups (over.backing.schema ++ def ∷ [])

-- a group is defined: no foreign key joins its tables with others, its first ticket is the next one, and nothing
-- pending writes a table of it
pub record MayDefine (p : Progress) (over : StandOver p) (g : LiveGroup) : Type 0 where
  pub closed : IsClosed g.tables over.backing.schema
  pub first : g.first ≡ p.next
  pub untouched : all_off g.tables (pending p.history p.log) ≡ true

abbrev pub with_live_group : Progress → LiveGroup → Progress
with_live_group p g = progress_of (g ∷ p.groups) p.history p.log p.next

-- a group is dropped
abbrev pub without_live_group : (p : Progress) (g : LiveGroup) → HasGroup p.groups g → Progress
without_live_group p g one = progress_of (one.before ++ one.behind) p.history p.log p.next

-- a transaction leaves the log
abbrev pub without_one : (p : Progress) (s : Sealed) → IsInLog p.log s → Progress
without_one p s one = progress_of p.groups p.history (one.before ++ one.behind) p.next

-- the operations of an entry
abbrev pub ops_in : Entry → List Op
ops_in (Definition def) = []
ops_in (Foreign ops) = ops
ops_in (Own ticket ops) = ops

-- on the group's tables none of these entries that isn't one of the group's transactions conflicts with this one
abbrev pub NoneBehind : LiveGroup → List TableDef → List Sealed → Sealed → List Entry → Type 0
NoneBehind g schema log s [] = Unit {0}
NoneBehind g schema log s (e ∷ entries) =
    (is_other (of_group g log) e ≡ true
    → ops_conflict schema (ops_on g.tables (ops_in e)) (ops_on g.tables s.ops) ≡ false)
    × NoneBehind g schema log s entries

-- a transaction may leave the log, where these are the lower and the higher ones: it stands in the history, it
-- conflicts with no lower one, and, on the tables of each live group, with no entry behind it that isn't one of the
-- group's transactions
pub record MayLeave (groups : List LiveGroup) (schema : List TableDef) (history : List Entry)
    (lower : List Sealed) (s : Sealed) (higher : List Sealed) : Type 0 where
  pub front : List Entry
  pub tail : List Entry
  pub stands : history ≡ front ++ entry_of s ∷ tail
  pub above : NoneConflicts schema lower s
  pub behind : (g : LiveGroup) → HasGroup groups g → NoneBehind g schema (lower ++ s ∷ higher) s tail

-- a transaction of the log may leave it, as the schema of the backing state has it
abbrev pub LeavesLog : (p : Progress) → StandOver p → (s : Sealed) → IsInLog p.log s → Type 0
LeavesLog p over s one = MayLeave p.groups over.backing.schema p.history one.before s one.behind
