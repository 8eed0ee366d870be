-- What may happen to unsettled transactions in a round, serial or parallel. (This project's rule.)

use Rattle.std.specs.Prelude.{◌≡◌, List, [], ◌∷◌, ◌++◌, true, false, Some}
use Rattle.table_state.specs.tier_base.specs.declared.number.TableId.{TableId}
use Rattle.table_state.specs.table_defs.specs.declared.definition.TableDef.{TableDef}
use Rattle.table_state.specs.declared.history.Entry.{Entry}
use Rattle.table_state.specs.declared.history.Entry.TheVariants.{Foreign}
use Rattle.table_state.specs.declared.history.Sealed.{Sealed}
use Rattle.table_state.specs.declared.operation.Op.{Op}
use Rattle.table_state.specs.Histories.{entry_of, has_ticket, state_of}
use Rattle.table_state.specs.Tables.{TableState}
use Rattle.order_laws.specs.Commits.{NoneConflicts, pending}
use Rattle.order_laws.specs.Sides.{are_off}

-- a transaction of others comes; a pending transaction comes; one that stands in the history leaves the unsettled ones
pub data Event : Type 0 where
  Others : List Op → Event
  Came : Sealed → Event
  Left : Sealed → Event

-- a transaction of others may come: it is on none of these tables, and the history leaves a state behind it
pub record OthersMayCome (live : List TableId) (history : List Entry) (ops : List Op) : Type 0 where
  pub off : are_off live ops ≡ true
  pub state : TableState
  pub leaves : state_of (history ++ Foreign ops ∷ []) ≡ Some state

-- a transaction is the first of the pending ones that it conflicts with
pub record IsNext (schema : List TableDef) (history : List Entry) (unsettled : List Sealed) (s : Sealed) : Type 0 where
  pub before : List Sealed
  pub behind : List Sealed
  pub is : pending history unsettled ≡ before ++ s ∷ behind
  pub fresh : has_ticket s.ticket.0 history ≡ false
  pub meets : NoneConflicts schema before s

-- a transaction is one of the unsettled ones, and stands in the history
pub record IsSettled (history : List Entry) (unsettled : List Sealed) (s : Sealed) : Type 0 where
  pub before : List Sealed
  pub behind : List Sealed
  pub is : unsettled ≡ before ++ s ∷ behind
  pub stands : has_ticket s.ticket.0 history ≡ true

-- these events lead from a history and unsettled transactions to others, over this schema, with these live tables
abbrev pub Follows : List TableDef → List TableId → List Event → List Entry → List Sealed → List Entry → List Sealed
    → Type 0
Follows schema live [] history unsettled later left = (later ≡ history) × (left ≡ unsettled)
Follows schema live (Others ops ∷ events) history unsettled later left =
    OthersMayCome live history ops × Follows schema live events (history ++ Foreign ops ∷ []) unsettled later left
Follows schema live (Came s ∷ events) history unsettled later left =
    IsNext schema history unsettled s × Follows schema live events (history ++ entry_of s ∷ []) unsettled later left
Follows schema live (Left s ∷ events) history unsettled later left =
    (gone : IsSettled history unsettled s)
    × Follows schema live events history (gone.before ++ gone.behind) later left
