-- A group among others: its tables when all has come, and its end.
use Rattle.std.proofs.Common.{◌≡◌, ℕ, Some, List, [], ◌∷◌, ◌++◌, sym, subst, ◌∙◌}
use Rattle.std.specs.Option.{option_and_then}
use Rattle.table_state.specs.table_defs.specs.declared.definition.TableDef.{TableDef}
use Rattle.table_state.specs.declared.history.Entry.{Entry}
use Rattle.table_state.specs.declared.history.Sealed.{Sealed}
use Rattle.table_state.specs.Tables.{TableState}
use Rattle.order_laws.specs.Commits.{LiveGroup, applied_sealed, in_order, pending}
use Rattle.order_laws.specs.Sides.{AgreeOn}
use Rattle.order_laws.specs.Standing.{GroupIsOrdered, GroupsAreOrdered, HasGroup, StandOver, progress_of}
use Rattle.order_laws.proofs.AgreeLaws.{same_on_group}
use Rattle.order_laws.proofs.TruthLaws.{same_some}

one_ordered : (before : List LiveGroup) (g : LiveGroup) (behind : List LiveGroup) (h : List Entry) (log : List Sealed) (schema : List TableDef) (next : ℕ) → GroupsAreOrdered (before ++ g ∷ behind) h log schema next → GroupIsOrdered g h log schema next
one_ordered [] g behind h log schema next ordered = ordered.0
one_ordered (x ∷ before) g behind h log schema next ordered = one_ordered before g behind h log schema next ordered.1

others_ordered : (before : List LiveGroup) (g : LiveGroup) (behind : List LiveGroup) (h : List Entry) (log : List Sealed) (schema : List TableDef) (next : ℕ) → GroupsAreOrdered (before ++ g ∷ behind) h log schema next → GroupsAreOrdered (before ++ behind) h log schema next
others_ordered [] g behind h log schema next ordered = ordered.1
others_ordered (x ∷ before) g behind h log schema next ordered = (ordered.0, others_ordered before g behind h log schema next ordered.1)

-- on each live group the virtual state is the group's order
pub virtual_is_order : (groups : List LiveGroup) (h : List Entry) (log : List Sealed) (next : ℕ) (over : StandOver (progress_of groups h log next)) (g : LiveGroup) → HasGroup groups g → (o : TableState) × (in_order g h log ≡ Some o) × AgreeOn g.tables over.virtual o
virtual_is_order groups h log next over g among =
    let ordered = one_ordered among.before g among.behind h log over.backing.schema next (subst (λ (l : List LiveGroup). GroupsAreOrdered l h log over.backing.schema next) among.is over.ordered) in
    (ordered.state, ordered.ordered, same_on_group groups h log next over g ordered ordered.state ordered.ordered)

-- and so is the backing state once nothing is pending
pub backing_is_order : (groups : List LiveGroup) (h : List Entry) (log : List Sealed) (next : ℕ) (over : StandOver (progress_of groups h log next)) → pending h log ≡ [] → (g : LiveGroup) → HasGroup groups g
    → (o : TableState) × (in_order g h log ≡ Some o) × AgreeOn g.tables over.backing o
backing_is_order groups h log next over none g among =
    let (o, o_is, agree) = virtual_is_order groups h log next over g among in
    let all : Some over.backing ≡ Some over.virtual = sym (λ i. option_and_then (applied_sealed (none i)) (over.leaves i)) ∙ over.virtual_is in
    (o, o_is, subst (λ (x : TableState). AgreeOn g.tables x o) (sym (same_some all)) agree)

-- a group that is dropped
pub group_dropped : (before : List LiveGroup) (g : LiveGroup) (behind : List LiveGroup) (h : List Entry) (log : List Sealed) (next : ℕ) → StandOver (progress_of (before ++ g ∷ behind) h log next) → StandOver (progress_of (before ++ behind) h log next)
group_dropped before g behind h log next over = record {
  backing = over.backing;
  leaves = over.leaves;
  virtual = over.virtual;
  virtual_is = over.virtual_is;
  rise = over.rise;
  below = over.below;
  legal = over.legal;
  ordered = others_ordered before g behind h log over.backing.schema next over.ordered;
}
