-- Committed transactions over a backing history, several writethrough groups among them. (TimesTen Cache User's Guide:
-- asynchronous and synchronous writethrough cache groups.)

use Rattle.std.specs.Prelude.{◌≡◌, ℕ, ◌+◌, ◌≤◌, ◌<◌, List, [], ◌∷◌, ◌++◌, Bool, true, false, ◌&&◌, not, Option, Some, map, nat_le}
use Rattle.std.specs.List.{filter, list_any}
use Rattle.std.specs.Option.{option_and_then}
use Rattle.table_state.specs.tier_base.specs.declared.number.TableId.{TableId}
use Rattle.table_state.specs.tier_base.specs.declared.number.Ticket.{Ticket}
use Rattle.table_state.specs.table_defs.specs.declared.definition.TableDef.{TableDef}
use Rattle.table_state.specs.declared.history.Entry.{Entry}
use Rattle.table_state.specs.declared.history.Sealed.{Sealed}
use Rattle.table_state.specs.declared.operation.Op.{Op}
use Rattle.table_state.specs.declared.history.Entry.TheVariants.{Definition, Foreign, Own}
use Rattle.table_state.specs.Copies.{is_one_of}
use Rattle.table_state.specs.Footprints.{conflict, footprint_of}
use Rattle.table_state.specs.Tables.{TableState}
use Rattle.table_state.specs.Operations.{applied_all, table_of}
use Rattle.table_state.specs.Histories.{state_of, has_ticket, entry_of}

-- the tickets rise, all from low on and below high
abbrev pub RiseBetween : ℕ → List Sealed → ℕ → Type 0
RiseBetween low [] high = low ≤ high
RiseBetween low (s ∷ ss) high = (low ≤ s.ticket.0) × RiseBetween (s.ticket.0 + 1) ss high

-- the transaction's ticket doesn't stand in the history
abbrev pub is_pending : List Entry → Sealed → Bool
is_pending history s = not (has_ticket s.ticket.0 history)

-- those of the committed transactions whose tickets don't stand in the history
abbrev pub pending : List Entry → List Sealed → List Sealed
pending history log = filter (is_pending history) log

-- transactions from left to right, and none if one doesn't apply
abbrev pub applied_sealed : List Sealed → TableState → Option TableState
applied_sealed [] s = Some s
applied_sealed (x ∷ xs) s = option_and_then (applied_sealed xs) (applied_all x.ops s)

-- the backing state with all pending transactions applied in ticket order
abbrev pub virtual_state : List Entry → List Sealed → Option TableState
virtual_state history log = option_and_then (applied_sealed (pending history log)) (state_of history)

-- operations conflict with others: a key is in both footprints, and written in one
abbrev pub ops_conflict : List TableDef → List Op → List Op → Bool
ops_conflict schema xs ys = conflict (footprint_of schema xs) (footprint_of schema ys)

-- so do two transactions
abbrev pub conflicting : List TableDef → Sealed → Sealed → Bool
conflicting schema a b = ops_conflict schema a.ops b.ops

-- no transaction of the list conflicts with this one
abbrev pub NoneConflicts : List TableDef → List Sealed → Sealed → Type 0
NoneConflicts schema [] s = Unit {0}
NoneConflicts schema (x ∷ xs) s = (conflicting schema x s ≡ false) × NoneConflicts schema xs s

-- each ticket stands in the history at most once
abbrev pub Once : List Entry → Type 0
Once [] = Unit {0}
Once (Definition def ∷ entries) = Once entries
Once (Foreign ops ∷ entries) = Once entries
Once (Own ticket ops ∷ entries) = (has_ticket ticket.0 entries ≡ false) × Once entries

-- where the ticket is one of the log's, these are that one's operations
abbrev pub AreOps : List Sealed → Ticket → List Op → Type 0
AreOps [] ticket ops = Unit {0}
AreOps (s ∷ log) ticket ops = (s.ticket.0 ≡ ticket.0 → ops ≡ s.ops) × AreOps log ticket ops

-- each transaction of the history that is of the log has its operations
abbrev pub HasOps : List Sealed → List Entry → Type 0
HasOps log [] = Unit {0}
HasOps log (Definition def ∷ entries) = HasOps log entries
HasOps log (Foreign ops ∷ entries) = HasOps log entries
HasOps log (Own ticket ops ∷ entries) = AreOps log ticket ops × HasOps log entries

-- each lower one of the log that conflicts with the transaction stands in the history
abbrev pub FollowsLower : (Sealed → Sealed → Bool) → List Sealed → Sealed → List Entry → Type 0
FollowsLower conflict [] s history = Unit {0}
FollowsLower conflict (lower ∷ log) s history =
    (lower.ticket.0 < s.ticket.0 → conflict lower s ≡ true → has_ticket lower.ticket.0 history ≡ true)
    × FollowsLower conflict log s history

-- behind this front, each entry of the log stands behind the lower ones of the log that it conflicts with; entries that
-- are none of the log's may stand anywhere
abbrev pub KeepsOrder : (Sealed → Sealed → Bool) → List Sealed → List Entry → List Entry → Type 0
KeepsOrder conflict log front [] = Unit {0}
KeepsOrder conflict log front (Definition def ∷ entries) =
    KeepsOrder conflict log (front ++ Definition def ∷ []) entries
KeepsOrder conflict log front (Foreign ops ∷ entries) =
    KeepsOrder conflict log (front ++ Foreign ops ∷ []) entries
KeepsOrder conflict log front (Own ticket ops ∷ entries) =
    (has_ticket ticket.0 (map entry_of log) ≡ true
    → FollowsLower conflict log (record { ticket = ticket; ops = ops }) front)
    × KeepsOrder conflict log (front ++ Own ticket ops ∷ []) entries

-- a history is legal for the log: each ticket stands there at most once, with the operations of its commit, and those
-- that conflict in commit order
pub record IsLegal (conflict : Sealed → Sealed → Bool) (history : List Entry) (log : List Sealed) : Type 0 where
  pub once : Once history
  pub ops : HasOps log history
  pub order : KeepsOrder conflict log [] history

-- where the history leaves a state, it is legal for the log by the conflicts of that state's schema
abbrev pub KeepsCommitOrder : List Entry → List Sealed → Type 0
KeepsCommitOrder history log = (s : TableState) → state_of history ≡ Some s → IsLegal (conflicting s.schema) history log

-- the transaction is one of the log's
pub record IsInLog (log : List Sealed) (s : Sealed) : Type 0 where
  pub before : List Sealed
  pub behind : List Sealed
  pub is : log ≡ before ++ s ∷ behind

-- a pending transaction may come next: each lower one of the log that it conflicts with stands in the history
pub record MayCome (conflict : Sealed → Sealed → Bool) (history : List Entry) (log : List Sealed) (s : Sealed)
    : Type 0 where
  pub one : IsInLog log s
  pub fresh : has_ticket s.ticket.0 history ≡ false
  pub follows : FollowsLower conflict log s history

-- a live writethrough group: its tables, and the ticket that was the next one at its definition
pub record LiveGroup : Type 0 where
  pub tables : List TableId
  pub first : ℕ

-- the operation is on one of these tables
abbrev pub is_op_on : List TableId → Op → Bool
is_op_on tables op = is_one_of tables (table_of op)

-- the operations on these tables
abbrev pub ops_on : List TableId → List Op → List Op
ops_on tables ops = filter (is_op_on tables) ops

-- a transaction is the group's: it writes a table of it, and has its first ticket or a later one
abbrev pub is_of_group : LiveGroup → Sealed → Bool
is_of_group g s = nat_le g.first s.ticket.0 && list_any (is_op_on g.tables) s.ops

-- the group's transactions
abbrev pub of_group : LiveGroup → List Sealed → List Sealed
of_group g log = filter (is_of_group g) log

-- whether an entry is none of the log's
abbrev pub is_other : List Sealed → Entry → Bool
is_other log (Definition def) = true
is_other log (Foreign ops) = true
is_other log (Own ticket ops) = not (has_ticket ticket.0 (map entry_of log))

-- of an entry the operations on these tables alone
abbrev pub entry_on : List TableId → Entry → Entry
entry_on tables (Definition def) = Definition def
entry_on tables (Foreign ops) = Foreign (ops_on tables ops)
entry_on tables (Own ticket ops) = Own ticket (ops_on tables ops)

-- what the other entries leave of the group's tables, and then all transactions of the group in ticket order
abbrev pub in_order : LiveGroup → List Entry → List Sealed → Option TableState
in_order g history log =
    state_of (map (entry_on g.tables) (filter (is_other (of_group g log)) history ++ map entry_of (of_group g log)))

-- no pending transaction that writes a table of the group has a ticket below its first
abbrev pub NoneBelow : LiveGroup → List Entry → List Sealed → Type 0
NoneBelow g history [] = Unit {0}
NoneBelow g history (s ∷ log) =
    (is_pending history s ≡ true → list_any (is_op_on g.tables) s.ops ≡ true → g.first ≤ s.ticket.0)
    × NoneBelow g history log
