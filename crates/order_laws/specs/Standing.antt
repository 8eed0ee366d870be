-- Committed transactions that stand over a backing history: what holds at each moment of a tier with writethrough
-- groups. (TimesTen Cache User's Guide: writethrough cache groups; the order is this project's rule.)

use Rattle.std.specs.Prelude.{◌≡◌, ℕ, ◌≤◌, List, [], ◌∷◌, ◌++◌, Some, Bool, true, false, is_some, slice_get}
use Rattle.std.specs.List.{list_all}
use Rattle.table_state.specs.tier_base.specs.declared.number.TableId.{TableId}
use Rattle.table_state.specs.table_defs.specs.declared.definition.TableDef.{TableDef}
use Rattle.table_state.specs.declared.history.Entry.{Entry}
use Rattle.table_state.specs.declared.history.Sealed.{Sealed}
use Rattle.table_state.specs.declared.operation.Op.{Op}
use Rattle.table_state.specs.Histories.{has_ticket, state_of}
use Rattle.table_state.specs.Operations.{table_of}
use Rattle.table_state.specs.Tables.{TableState}
use Rattle.order_laws.specs.Commits.{IsLegal, LiveGroup, NoneBelow, RiseBetween, conflicting, in_order, pending, virtual_state}
use Rattle.order_laws.specs.Sides.{AgreeOn, IsClosed, all_on, are_off}

-- how far it has come: the live writethrough groups, the backing history, all committed transactions in ticket order,
-- and the next ticket
pub record Progress : Type 0 where
  pub groups : List LiveGroup
  pub history : List Entry
  pub log : List Sealed
  pub next : ℕ

abbrev pub progress_of : List LiveGroup → List Entry → List Sealed → ℕ → Progress
progress_of groups history log next = record { groups = groups; history = history; log = log; next = next }

-- the tables of all live writethrough groups
abbrev pub live_tables : List LiveGroup → List TableId
live_tables [] = []
live_tables (g ∷ groups) = g.tables ++ live_tables groups

-- the group is one of these
pub record HasGroup (groups : List LiveGroup) (g : LiveGroup) : Type 0 where
  pub before : List LiveGroup
  pub behind : List LiveGroup
  pub is : groups ≡ before ++ g ∷ behind

-- no foreign key joins a group's tables with others
abbrev pub AreClosed : List LiveGroup → List TableDef → Type 0
AreClosed [] schema = Unit {0}
AreClosed (g ∷ groups) schema = IsClosed g.tables schema × AreClosed groups schema

-- a live group stands over the history: no foreign key joins its tables with others, its first ticket isn't above the
-- next one, no pending transaction on its tables is below the first, and its transactions apply in ticket order
pub record GroupIsOrdered (g : LiveGroup) (history : List Entry) (log : List Sealed) (schema : List TableDef) (next : ℕ)
    : Type 0 where
  pub closed : IsClosed g.tables schema
  pub first : g.first ≤ next
  pub none_below : NoneBelow g history log
  pub state : TableState
  pub ordered : in_order g history log ≡ Some state

abbrev pub GroupsAreOrdered : List LiveGroup → List Entry → List Sealed → List TableDef → ℕ → Type 0
GroupsAreOrdered [] history log schema next = Unit {0}
GroupsAreOrdered (g ∷ groups) history log schema next =
    GroupIsOrdered g history log schema next × GroupsAreOrdered groups history log schema next

-- the transactions stand over the history: it leaves a state, and what is pending applies to that; tickets rise and
-- are below the next one, as those of the history are; the history is legal; each live group stands
pub record StandOver (p : Progress) : Type 0 where
  pub backing : TableState
  pub leaves : state_of p.history ≡ Some backing
  pub virtual : TableState
  pub virtual_is : virtual_state p.history p.log ≡ Some virtual
  pub rise : RiseBetween 1 p.log p.next
  pub below : (t : ℕ) → p.next ≤ t → has_ticket t p.history ≡ false
  pub legal : IsLegal (conflicting backing.schema) p.history p.log
  pub ordered : GroupsAreOrdered p.groups p.history p.log backing.schema p.next

-- what is pending is on tables of live groups
abbrev pub PendingIsLive : List LiveGroup → List Entry → List Sealed → Type 0
PendingIsLive groups history log = all_on (live_tables groups) (pending history log) ≡ true

-- all operations are on defined tables
abbrev pub are_on_defined : List TableDef → List Op → Bool
are_on_defined schema ops = list_all (λ op. is_some (slice_get schema (table_of op).0)) ops

-- all transactions write defined tables alone
abbrev pub AreOnDefined : List TableDef → List Sealed → Type 0
AreOnDefined schema log = list_all (λ s. are_on_defined schema s.ops) log ≡ true

-- no transaction writes one of these tables
abbrev pub all_off : List TableId → List Sealed → Bool
all_off tables log = list_all (λ s. are_off tables s.ops) log

-- the transactions stand over the history, what is pending is on tables of live groups, and all are on defined tables
pub record Stand (p : Progress) : Type 0 where
  pub over : StandOver p
  pub live : PendingIsLive p.groups p.history p.log
  pub known : AreOnDefined over.backing.schema p.log

-- they stand, and the virtual state is this one
pub record StandsAs (p : Progress) (virtual : TableState) : Type 0 where
  pub stand : Stand p
  pub same : stand.over.virtual ≡ virtual

-- they stand, and the virtual state has the rows of this one in the live tables
pub record StandsWithLive (p : Progress) (virtual : TableState) : Type 0 where
  pub stand : Stand p
  pub same : AgreeOn (live_tables p.groups) virtual stand.over.virtual

-- in the tables of each live group the state has what the group's order leaves
pub record HasGroupOrder (p : Progress) (s : TableState) (g : LiveGroup) : Type 0 where
  pub ordered : TableState
  pub leaves : in_order g p.history p.log ≡ Some ordered
  pub agree : AgreeOn g.tables s ordered

abbrev pub HasGroupOrders : Progress → TableState → Type 0
HasGroupOrders p s = (g : LiveGroup) → HasGroup p.groups g → HasGroupOrder p s g
