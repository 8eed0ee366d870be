-- The last transactions are lost, of which none stands in the history.
use Rattle.std.proofs.Common.{◌≡◌, ℕ, ◌+◌, ◌≤◌, Bool, true, false, ◌||◌, nat_eq, Option, Some, None, List, [], ◌∷◌, ◌++◌, refl, sym, ap, ◌∙◌, arith}
use Rattle.std.specs.Option.{option_and_then}
use Rattle.table_state.specs.tier_base.specs.declared.number.Ticket.{Ticket}
use Rattle.table_state.specs.table_defs.specs.declared.definition.TableDef.{TableDef}
use Rattle.table_state.specs.declared.history.Entry.{Entry}
use Rattle.table_state.specs.declared.history.Entry.TheVariants.{Definition, Foreign, Own}
use Rattle.table_state.specs.declared.history.Sealed.{Sealed}
use Rattle.table_state.specs.declared.operation.Op.{Op}
use Rattle.table_state.specs.Histories.{has_ticket}
use Rattle.table_state.specs.Tables.{TableState}
use Rattle.table_state.specs.Operations.{applied_all}
use Rattle.order_laws.specs.Commits.{AreOps, FollowsLower, HasOps, KeepsOrder, LiveGroup, NoneBelow, RiseBetween, applied_sealed, conflicting, in_order, is_of_group, ops_on, pending}
use Rattle.order_laws.specs.Standing.{GroupIsOrdered, GroupsAreOrdered, StandOver, progress_of}
use Rattle.order_laws.proofs.CommittingLaws.{has_ticket_last, order_longer, order_without, pending_last}
use Rattle.order_laws.proofs.NextLaws.{sealed-append}

rise_front : (low : ℕ) (log : List Sealed) (s : Sealed) (high : ℕ) → RiseBetween low (log ++ s ∷ []) high → RiseBetween low log high
rise_front low [] s high rise = let first : low ≤ s.ticket.0 = rise.0 in let last : s.ticket.0 + 1 ≤ high = rise.1 in omega arith
rise_front low (x ∷ log) s high rise = (rise.0, rise_front (x.ticket.0 + 1) log s high rise.1)

ops_front : (log : List Sealed) (s : Sealed) (ticket : Ticket) (ops : List Op) → AreOps (log ++ s ∷ []) ticket ops → AreOps log ticket ops
ops_front [] s ticket ops are = tt
ops_front (x ∷ log) s ticket ops are = (are.0, ops_front log s ticket ops are.1)

has_ops_front : (log : List Sealed) (s : Sealed) (h : List Entry) → HasOps (log ++ s ∷ []) h → HasOps log h
has_ops_front log s [] has = tt
has_ops_front log s (Definition def ∷ h) has = has_ops_front log s h has
has_ops_front log s (Foreign ops ∷ h) has = has_ops_front log s h has
has_ops_front log s (Own ticket ops ∷ h) has = (ops_front log s ticket ops has.0, has_ops_front log s h has.1)

follows_front : (conflict : Sealed → Sealed → Bool) (log : List Sealed) (s x : Sealed) (front : List Entry) → FollowsLower conflict (log ++ s ∷ []) x front → FollowsLower conflict log x front
follows_front conflict [] s x front follows = tt
follows_front conflict (y ∷ log) s x front follows = (follows.0, follows_front conflict log s x front follows.1)

order_front : (conflict : Sealed → Sealed → Bool) (log : List Sealed) (s : Sealed) (front h : List Entry) → KeepsOrder conflict (log ++ s ∷ []) front h → KeepsOrder conflict log front h
order_front conflict log s front [] keeps = tt
order_front conflict log s front (Definition def ∷ h) keeps = order_front conflict log s (front ++ Definition def ∷ []) h keeps
order_front conflict log s front (Foreign ops ∷ h) keeps = order_front conflict log s (front ++ Foreign ops ∷ []) h keeps
order_front conflict log s front (Own ticket ops ∷ h) keeps = (
  λ stands. follows_front conflict log s (record { ticket = ticket; ops = ops }) front (keeps.0 (has_ticket_last ticket.0 log s ∙ ap (λ b. b || nat_eq s.ticket.0 ticket.0) stands)),
  order_front conflict log s (front ++ Own ticket ops ∷ []) h keeps.1,
)

below_front : (g : LiveGroup) (h : List Entry) (log : List Sealed) (s : Sealed) → NoneBelow g h (log ++ s ∷ []) → NoneBelow g h log
below_front g h [] s none = tt
below_front g h (x ∷ log) s none = (none.0, below_front g h log s none.1)

some_before : {X Y : Type 0} (f : X → Option Y) (o : Option X) (y : Y) → option_and_then f o ≡ Some y → (x : X) × (o ≡ Some x)
some_before f None y e = cc
some_before f (Some x) y e = (x, refl)

group_front : (g : LiveGroup) (h : List Entry) (log : List Sealed) (s : Sealed) (schema : List TableDef) (next : ℕ) → has_ticket s.ticket.0 h ≡ false → GroupIsOrdered g h (log ++ s ∷ []) schema next → GroupIsOrdered g h log schema next
group_front g h log s schema next fresh ordered =
    let (o, o_is) = by (is_of_group g s) refl in
    record { closed = ordered.closed; first = ordered.first; none_below = below_front g h log s ordered.none_below; state = o; ordered = o_is }
  where
    by : (b : Bool) → is_of_group g s ≡ b → (o : TableState) × (in_order g h log ≡ Some o)
    by true mine = some_before (applied_all (ops_on g.tables s.ops)) (in_order g h log) ordered.state (sym (order_longer g h log s fresh mine) ∙ ordered.ordered)
    by false other = (ordered.state, sym (order_without g h log s other) ∙ ordered.ordered)

groups_front : (groups : List LiveGroup) (h : List Entry) (log : List Sealed) (s : Sealed) (schema : List TableDef) (next : ℕ) → has_ticket s.ticket.0 h ≡ false → GroupsAreOrdered groups h (log ++ s ∷ []) schema next → GroupsAreOrdered groups h log schema next
groups_front [] h log s schema next fresh ordered = tt
groups_front (g ∷ groups) h log s schema next fresh ordered = (group_front g h log s schema next fresh ordered.0, groups_front groups h log s schema next fresh ordered.1)

pub last_lost : (groups : List LiveGroup) (h : List Entry) (log : List Sealed) (s : Sealed) (next : ℕ) → has_ticket s.ticket.0 h ≡ false → StandOver (progress_of groups h (log ++ s ∷ []) next) → StandOver (progress_of groups h log next)
last_lost groups h log s next fresh over =
    let pends : applied_sealed (pending h log ++ s ∷ []) over.backing ≡ Some over.virtual =
    ap (λ l. applied_sealed l over.backing) (sym (pending_last h log s fresh)) ∙ sym (ap (option_and_then (applied_sealed (pending h (log ++ s ∷ [])))) over.leaves) ∙ over.virtual_is
    in
    let (v, v_is) = some_before (applied_sealed (s ∷ [])) (applied_sealed (pending h log) over.backing) over.virtual (sym (sealed-append (pending h log) (s ∷ []) over.backing) ∙ pends) in
    record {
      backing = over.backing;
      leaves = over.leaves;
      virtual = v;
      virtual_is = ap (option_and_then (applied_sealed (pending h log))) over.leaves ∙ v_is;
      rise = rise_front 1 log s next over.rise;
      below = over.below;
      legal = record {
        once = over.legal.once;
        ops = has_ops_front log s h over.legal.ops;
        order = order_front (conflicting over.backing.schema) log s [] h over.legal.order;
      };
      ordered = groups_front groups h log s over.backing.schema next fresh over.ordered;
    }

-- tickets that were given to nothing
pub tickets_skipped : (groups : List LiveGroup) (h : List Entry) (log : List Sealed) (next later : ℕ) → next ≤ later → StandOver (progress_of groups h log next) → StandOver (progress_of groups h log later)
tickets_skipped groups h log next later le over = record {
  backing = over.backing;
  leaves = over.leaves;
  virtual = over.virtual;
  virtual_is = over.virtual_is;
  rise = higher 1 log over.rise;
  below = λ t l. over.below t (let a : next ≤ later = le in let b : later ≤ t = l in omega arith);
  legal = over.legal;
  ordered = more groups over.ordered;
}
  where
    higher : (low : ℕ) (ss : List Sealed) → RiseBetween low ss next → RiseBetween low ss later
    higher low [] rise = let a : low ≤ next = rise in let b : next ≤ later = le in omega arith
    higher low (s ∷ ss) rise = (rise.0, higher (s.ticket.0 + 1) ss rise.1)

    more : (gs : List LiveGroup) → GroupsAreOrdered gs h log over.backing.schema next → GroupsAreOrdered gs h log over.backing.schema later
    more [] ordered = tt
    more (g ∷ gs) ordered = (
      record {
        closed = ordered.0.closed;
        first = let a : g.first ≤ next = ordered.0.first in let b : next ≤ later = le in omega arith;
        none_below = ordered.0.none_below;
        state = ordered.0.state;
        ordered = ordered.0.ordered;
      },
      more gs ordered.1,
    )
