-- What the laws say where it is longer than a line.

use Rattle.std.specs.Prelude.{◌≡◌, ◌≤◌, ◌<◌, ◌⊎◌, ℕ, List, [], ◌∷◌, ◌++◌, Bool, Some, false}
use Rattle.std.specs.List.{list_any}
use Rattle.std.specs.Option.{option_and_then}
use Rattle.table_state.specs.table_defs.specs.declared.definition.TableDef.{TableDef}
use Rattle.table_state.specs.declared.history.Entry.{Entry}
use Rattle.table_state.specs.declared.history.Sealed.{Sealed}
use Rattle.table_state.specs.Histories.{entry_of, state_of}
use Rattle.table_state.specs.Operations.{applied_all}
use Rattle.table_state.specs.Tables.{TableState}
use Rattle.order_laws.specs.Commits.{FollowsLower, HasOps, IsInLog, IsLegal, LiveGroup, MayCome, NoneBelow, NoneConflicts, Once, RiseBetween, applied_sealed, conflicting, in_order, is_op_on, ops_conflict, ops_on, virtual_state}
use Rattle.order_laws.specs.Steps.{ops_in}

-- a transaction that conflicts with none of those before it in a list may as well be the first
abbrev pub GoesFirst : Type 0
GoesFirst =
    (xs : List Sealed) (j : Sealed) (ys : List Sealed) (s : TableState) → NoneConflicts s.schema xs j
    → applied_sealed (xs ++ j ∷ ys) s ≡ option_and_then (applied_sealed (xs ++ ys)) (applied_all j.ops s)

-- each ticket stands in the history at most once and with the operations of its commit, tickets of the log rise, no
-- pending transaction on the group's tables is below its first, and both are defined: the virtual state, and the
-- group's order
pub record HasBoth (g : LiveGroup) (history : List Entry) (log : List Sealed) (virtual ordered : TableState)
    : Type 0 where
  pub once : Once history
  pub ops : HasOps log history
  pub low : ℕ
  pub high : ℕ
  pub rise : RiseBetween low log high
  pub none_below : NoneBelow g history log
  pub virtual_is : virtual_state history log ≡ Some virtual
  pub ordered_is : in_order g history log ≡ Some ordered

-- where a pending transaction comes that may come next, the virtual state stays, be it defined or not
abbrev pub VirtualStays : Type 0
VirtualStays =
    (history : List Entry) (s : TableState) (low : ℕ) (log : List Sealed) (high : ℕ) (j : Sealed)
    → state_of history ≡ Some s → RiseBetween low log high → MayCome (conflicting s.schema) history log j
    → virtual_state (history ++ entry_of j ∷ []) log ≡ virtual_state history log

-- and a legal history stays legal
abbrev pub LegalStays : Type 0
LegalStays =
    (conflict : Sealed → Sealed → Bool) (history : List Entry) (low : ℕ) (log : List Sealed) (high : ℕ) (j : Sealed)
    → RiseBetween low log high → IsLegal conflict history log → MayCome conflict history log j
    → IsLegal conflict (history ++ entry_of j ∷ []) log

-- what may come next may come later, when others have come
abbrev pub FollowsLater : Type 0
FollowsLater =
    (conflict : Sealed → Sealed → Bool) (log : List Sealed) (s : Sealed) (history more : List Entry)
    → FollowsLower conflict log s history → FollowsLower conflict log s (history ++ more)

-- and when others have committed
abbrev pub FollowsAfterCommit : Type 0
FollowsAfterCommit =
    (conflict : Sealed → Sealed → Bool) (log : List Sealed) (later s : Sealed) (history : List Entry)
    → s.ticket.0 ≤ later.ticket.0 → FollowsLower conflict log s history
    → FollowsLower conflict (log ++ later ∷ []) s history

-- an entry behind a transaction that leaves the log is no hindrance for a group where it is on none of the group's
-- tables, or has no conflict with the transaction
abbrev pub IsNoHindrance : Type 0
IsNoHindrance =
    (g : LiveGroup) (schema : List TableDef) (s : Sealed) (e : Entry)
    → (list_any (is_op_on g.tables) (ops_in e) ≡ false) ⊎ (ops_conflict schema (ops_in e) s.ops ≡ false)
    → ops_conflict schema (ops_on g.tables (ops_in e)) (ops_on g.tables s.ops) ≡ false

-- in a legal history a transaction has no conflict with a higher one that stands before it
abbrev pub LowerBehind : Type 0
LowerBehind =
    (conflict : Sealed → Sealed → Bool) (history : List Entry) (log : List Sealed)
    (front mid end : List Entry) (s x : Sealed)
    → IsLegal conflict history log → history ≡ front ++ entry_of s ∷ (mid ++ entry_of x ∷ end)
    → IsInLog log s → IsInLog log x → x.ticket.0 < s.ticket.0 → conflict x s ≡ false
