-- A transaction is committed: it stands behind the others, pending.
use Rattle.std.proofs.Common.{◌≡◌, ℕ, ◌+◌, ◌≤◌, ◌<◌, Bool, true, false, cond, not, ◌&&◌, ◌||◌, nat_eq, Some, List, [], ◌∷◌, ◌++◌, map, refl, sym, ap, subst, ◌∙◌, arith, append_assoc, append-nil, eq-eqb, lt_of_not-le}
use Rattle.std.specs.List.{filter}
use Rattle.std.specs.Option.{option_and_then}
use Rattle.std.proofs.lemmas.List.{map-append}
use Rattle.std.proofs.lemmas.List.Elements.{filter-append}
use Rattle.std.proofs.lemmas.List.Folds.{list_all-append}
use Rattle.table_state.specs.tier_base.specs.declared.number.Ticket.{Ticket}
use Rattle.table_state.specs.declared.history.Entry.{Entry}
use Rattle.table_state.specs.declared.history.Entry.TheVariants.{Definition, Foreign, Own}
use Rattle.table_state.specs.declared.history.Sealed.{Sealed}
use Rattle.table_state.specs.declared.operation.Op.{Op}
use Rattle.table_state.specs.Histories.{entry_of, has_ticket, state_from, state_of}
use Rattle.table_state.specs.Tables.{TableState}
use Rattle.table_state.specs.Operations.{applied_all}
use Rattle.table_state.proofs.HistoryLaws.{has_ticket-append, state_of-append}
use Rattle.order_laws.specs.Commits.{AreOps, FollowsLower, HasOps, IsLegal, KeepsOrder, LiveGroup, NoneBelow, RiseBetween, applied_sealed, conflicting, entry_on, in_order, is_of_group, is_other, is_pending, of_group, ops_on, pending, virtual_state}
use Rattle.order_laws.specs.Sides.{IsClosed, all_on, are_on}
use Rattle.order_laws.specs.Standing.{GroupIsOrdered, GroupsAreOrdered, PendingIsLive, StandOver, live_tables, progress_of}
use Rattle.order_laws.proofs.AgreeLaws.{same_on_group}
use Rattle.order_laws.proofs.NextLaws.{by_option, nat_eq_other, sealed-append}
use Rattle.order_laws.proofs.SideLaws.{restricted}
use Rattle.order_laws.proofs.StepLaws.{or_none}
use Rattle.order_laws.proofs.OrderLaws.{virtual_schema}
use Rattle.order_laws.proofs.CountLaws.{schema_after}
use Rattle.order_laws.proofs.TruthLaws.{never_both, once_more, or_false}

pub rise_last : (low : ℕ) (log : List Sealed) (next : ℕ) (s : Sealed) → RiseBetween low log next → next ≤ s.ticket.0 → RiseBetween low (log ++ s ∷ []) (s.ticket.0 + 1)
rise_last low [] next s rise le = (let first : low ≤ next = rise in let more : next ≤ s.ticket.0 = le in omega arith, omega arith)
rise_last low (x ∷ log) next s rise le = (rise.0, rise_last (x.ticket.0 + 1) log next s rise.1 le)

-- the history doesn't know the new ticket

ops_last : (log : List Sealed) (s : Sealed) (ticket : Ticket) (ops : List Op) → (s.ticket.0 ≡ ticket.0 → ⊥) → AreOps log ticket ops → AreOps (log ++ s ∷ []) ticket ops
ops_last [] s ticket ops differ are = (λ e. absurd (differ e), tt)
ops_last (x ∷ log) s ticket ops differ are = (are.0, ops_last log s ticket ops differ are.1)

differs : (a b : ℕ) → nat_eq a b ≡ false → b ≡ a → ⊥
differs a b other e = never_both (nat_eq a b) (eq-eqb a b (sym e)) other

has_ops_last : (log : List Sealed) (s : Sealed) (h : List Entry) → has_ticket s.ticket.0 h ≡ false → HasOps log h → HasOps (log ++ s ∷ []) h
has_ops_last log s [] fresh has = tt
has_ops_last log s (Definition def ∷ h) fresh has = has_ops_last log s h fresh has
has_ops_last log s (Foreign ops ∷ h) fresh has = has_ops_last log s h fresh has
has_ops_last log s (Own ticket ops ∷ h) fresh has =
    let (other, rest) = or_none (nat_eq ticket.0 s.ticket.0) (has_ticket s.ticket.0 h) fresh in
    (ops_last log s ticket ops (differs ticket.0 s.ticket.0 other) has.0, has_ops_last log s h rest has.1)

follows_last : (conflict : Sealed → Sealed → Bool) (log : List Sealed) (s x : Sealed) (front : List Entry) → x.ticket.0 < s.ticket.0 → FollowsLower conflict log x front → FollowsLower conflict (log ++ s ∷ []) x front
follows_last conflict [] s x front above follows = (λ below. absurd (omega arith), tt)
follows_last conflict (y ∷ log) s x front above follows = (follows.0, follows_last conflict log s x front above follows.1)

pub has_ticket_last : (t : ℕ) (log : List Sealed) (s : Sealed) → has_ticket t (map entry_of (log ++ s ∷ [])) ≡ (has_ticket t (map entry_of log) || nat_eq s.ticket.0 t)
has_ticket_last t log s =
    ap (has_ticket t) (map-append entry_of log (s ∷ [])) ∙ has_ticket-append t (map entry_of log) (entry_of s ∷ []) ∙ ap (λ b. has_ticket t (map entry_of log) || b) (or_false (nat_eq s.ticket.0 t))

order_last : (conflict : Sealed → Sealed → Bool) (log : List Sealed) (s : Sealed) (next : ℕ) (front h : List Entry) → next ≤ s.ticket.0 → ((t : ℕ) → next ≤ t → has_ticket t h ≡ false) → KeepsOrder conflict log front h
    → KeepsOrder conflict (log ++ s ∷ []) front h
order_last conflict log s next front [] le fresh keeps = tt
order_last conflict log s next front (Definition def ∷ h) le fresh keeps = order_last conflict log s next (front ++ Definition def ∷ []) h le fresh keeps
order_last conflict log s next front (Foreign ops ∷ h) le fresh keeps = order_last conflict log s next (front ++ Foreign ops ∷ []) h le fresh keeps
order_last conflict log s next front (Own ticket ops ∷ h) le fresh keeps = (
  λ stands. follows_last conflict log s (record { ticket = ticket; ops = ops }) front (let n : next ≤ s.ticket.0 = le in omega (arith, below))
      (keeps.0 (sym (or_false (has_ticket ticket.0 (map entry_of log))) ∙ ap (λ b. has_ticket ticket.0 (map entry_of log) || b) (sym (nat_eq_other s.ticket.0 ticket.0 (λ e. absurd (let n : next ≤ s.ticket.0 = le in omega (arith, below))))) ∙ sym (has_ticket_last ticket.0 log s) ∙ stands)),
  order_last conflict log s next (front ++ Own ticket ops ∷ []) h le (λ t l. (or_none (nat_eq ticket.0 t) (has_ticket t h) (fresh t l)).1) keeps.1,
)
  where
    below : ticket.0 < next
    below = lt_of_not-le (λ l. never_both (nat_eq ticket.0 ticket.0) (eq-eqb ticket.0 ticket.0 refl) (or_none (nat_eq ticket.0 ticket.0) (has_ticket ticket.0 h) (fresh ticket.0 l)).0)

legal_last : (conflict : Sealed → Sealed → Bool) (h : List Entry) (log : List Sealed) (next : ℕ) (s : Sealed) → next ≤ s.ticket.0 → ((t : ℕ) → next ≤ t → has_ticket t h ≡ false) → IsLegal conflict h log → IsLegal conflict h (log ++ s ∷ [])
legal_last conflict h log next s le fresh legal = record {
  once = legal.once;
  ops = has_ops_last log s h (fresh s.ticket.0 le) legal.ops;
  order = order_last conflict log s next [] h le fresh legal.order;
}

-- it is pending
pub pending_last : (h : List Entry) (log : List Sealed) (s : Sealed) → has_ticket s.ticket.0 h ≡ false → pending h (log ++ s ∷ []) ≡ pending h log ++ s ∷ []
pending_last h log s fresh = filter-append (is_pending h) log (s ∷ []) ∙ ap (λ b. pending h log ++ cond (not b) (s ∷ []) []) fresh

-- the group's order has it last

others_last : (log : List Sealed) (s : Sealed) (h : List Entry) → has_ticket s.ticket.0 h ≡ false → filter (is_other (log ++ s ∷ [])) h ≡ filter (is_other log) h
others_last log s [] fresh = refl
others_last log s (Definition def ∷ h) fresh = ap (λ l. Definition def ∷ l) (others_last log s h fresh)
others_last log s (Foreign ops ∷ h) fresh = ap (λ l. Foreign ops ∷ l) (others_last log s h fresh)
others_last log s (Own ticket ops ∷ h) fresh =
    let (other, rest) = or_none (nat_eq ticket.0 s.ticket.0) (has_ticket s.ticket.0 h) fresh in
    let same : has_ticket ticket.0 (map entry_of (log ++ s ∷ [])) ≡ has_ticket ticket.0 (map entry_of log) =
    has_ticket_last ticket.0 log s ∙ ap (λ b. has_ticket ticket.0 (map entry_of log) || b) (nat_eq_other s.ticket.0 ticket.0 (differs ticket.0 s.ticket.0 other)) ∙ or_false (has_ticket ticket.0 (map entry_of log))
    in
    λ i. cond (not (same i)) (Own ticket ops ∷ others_last log s h rest i) (others_last log s h rest i)

pub order_longer : (g : LiveGroup) (h : List Entry) (log : List Sealed) (s : Sealed) → has_ticket s.ticket.0 h ≡ false → is_of_group g s ≡ true → in_order g h (log ++ s ∷ []) ≡ option_and_then (applied_all (ops_on g.tables s.ops)) (in_order g h log)
order_longer g h log s fresh mine =
    let group = of_group g log in
    let front = filter (is_other group) h in
    let grown : of_group g (log ++ s ∷ []) ≡ group ++ s ∷ [] = filter-append (is_of_group g) log (s ∷ []) ∙ ap (λ b. group ++ cond b (s ∷ []) []) mine in
    ap (λ l. state_of (map (entry_on g.tables) (filter (is_other l) h ++ map entry_of l))) grown
    ∙ (λ i. state_of (map (entry_on g.tables) (others_last group s h fresh i ++ map-append entry_of group (s ∷ []) i)))
    ∙ ap (λ l. state_of (map (entry_on g.tables) l)) (sym (append_assoc front (map entry_of group) (entry_of s ∷ [])))
    ∙ ap state_of (map-append (entry_on g.tables) (front ++ map entry_of group) (entry_of s ∷ []))
    ∙ state_of-append (map (entry_on g.tables) (front ++ map entry_of group)) (entry_on g.tables (entry_of s) ∷ [])
    ∙ by_option (state_from (entry_on g.tables (entry_of s) ∷ [])) (applied_all (ops_on g.tables s.ops)) (λ x. once_more (applied_all (ops_on g.tables s.ops) x)) (state_of (map (entry_on g.tables) (front ++ map entry_of group)))

order_grows : (g : LiveGroup) (h : List Entry) (log : List Sealed) (s : Sealed) (o : TableState) → has_ticket s.ticket.0 h ≡ false → in_order g h log ≡ Some o → is_of_group g s ≡ true
    → in_order g h (log ++ s ∷ []) ≡ applied_all (ops_on g.tables s.ops) o
order_grows g h log s o fresh is mine = order_longer g h log s fresh mine ∙ ap (option_and_then (applied_all (ops_on g.tables s.ops))) is

pub order_without : (g : LiveGroup) (h : List Entry) (log : List Sealed) (s : Sealed) → is_of_group g s ≡ false → in_order g h (log ++ s ∷ []) ≡ in_order g h log
order_without g h log s other =
    let same : of_group g (log ++ s ∷ []) ≡ of_group g log = filter-append (is_of_group g) log (s ∷ []) ∙ ap (λ b. of_group g log ++ cond b (s ∷ []) []) other ∙ append-nil (of_group g log) in
    ap (λ l. state_of (map (entry_on g.tables) (filter (is_other l) h ++ map entry_of l))) same

none_below_last : (g : LiveGroup) (h : List Entry) (log : List Sealed) (s : Sealed) → g.first ≤ s.ticket.0 → NoneBelow g h log → NoneBelow g h (log ++ s ∷ [])
none_below_last g h [] s le none = (λ p on. le, tt)
none_below_last g h (x ∷ log) s le none = (none.0, none_below_last g h log s le none.1)

pub schemas_same : (h : List Entry) (log : List Sealed) (b v : TableState) → state_of h ≡ Some b → virtual_state h log ≡ Some v → v.schema ≡ b.schema
schemas_same h log b v leaves is = virtual_schema h log v is ∙ sym (schema_after h (record { schema = []; tables = [] }) b leaves)

group_grows : (all : List LiveGroup) (h : List Entry) (log : List Sealed) (next : ℕ) (over : StandOver (progress_of all h log next)) (s : Sealed) (v : TableState) → next ≤ s.ticket.0 → applied_all s.ops over.virtual ≡ Some v
    → (g : LiveGroup) → GroupIsOrdered g h log over.backing.schema next → GroupIsOrdered g h (log ++ s ∷ []) over.backing.schema (s.ticket.0 + 1)
group_grows all h log next over s v le is g ordered = by (is_of_group g s) refl
  where
    fresh : has_ticket s.ticket.0 h ≡ false
    fresh = over.below s.ticket.0 le

    by : (b : Bool) → is_of_group g s ≡ b → GroupIsOrdered g h (log ++ s ∷ []) over.backing.schema (s.ticket.0 + 1)
    by true mine =
        let closed : IsClosed g.tables over.virtual.schema = subst (IsClosed g.tables) (sym (schemas_same h log over.backing over.virtual over.leaves over.virtual_is)) ordered.closed in
        let (u, u_is, agree) = restricted g.tables s.ops over.virtual v ordered.state closed (same_on_group all h log next over g ordered ordered.state ordered.ordered) is in
        record {
          closed = ordered.closed;
          first = let a : g.first ≤ next = ordered.first in let b : next ≤ s.ticket.0 = le in omega arith;
          none_below = none_below_last g h log s (let a : g.first ≤ next = ordered.first in let b : next ≤ s.ticket.0 = le in omega arith) ordered.none_below;
          state = u;
          ordered = order_grows g h log s ordered.state fresh ordered.ordered mine ∙ u_is;
        }
    by false other = record {
      closed = ordered.closed;
      first = let a : g.first ≤ next = ordered.first in let b : next ≤ s.ticket.0 = le in omega arith;
      none_below = none_below_last g h log s (let a : g.first ≤ next = ordered.first in let b : next ≤ s.ticket.0 = le in omega arith) ordered.none_below;
      state = ordered.state;
      ordered = order_without g h log s other ∙ ordered.ordered;
    }

groups_grow : (all groups : List LiveGroup) (h : List Entry) (log : List Sealed) (next : ℕ) (over : StandOver (progress_of all h log next)) (s : Sealed) (v : TableState) → next ≤ s.ticket.0 → applied_all s.ops over.virtual ≡ Some v
    → GroupsAreOrdered groups h log over.backing.schema next → GroupsAreOrdered groups h (log ++ s ∷ []) over.backing.schema (s.ticket.0 + 1)
groups_grow all [] h log next over s v le is ordered = tt
groups_grow all (g ∷ groups) h log next over s v le is ordered = (group_grows all h log next over s v le is g ordered.0, groups_grow all groups h log next over s v le is ordered.1)

pub commits : (groups : List LiveGroup) (h : List Entry) (log : List Sealed) (next : ℕ) (over : StandOver (progress_of groups h log next)) (s : Sealed) (v : TableState) → next ≤ s.ticket.0 → applied_all s.ops over.virtual ≡ Some v
    → (now : StandOver (progress_of groups h (log ++ s ∷ []) (s.ticket.0 + 1))) × (now.virtual ≡ v) × (now.backing ≡ over.backing)
commits groups h log next over s v le is =
    let fresh : has_ticket s.ticket.0 h ≡ false = over.below s.ticket.0 le in
    let pends = pending_last h log s fresh in
    let before : applied_sealed (pending h log) over.backing ≡ Some over.virtual = sym (ap (option_and_then (applied_sealed (pending h log))) over.leaves) ∙ over.virtual_is in (
      record {
        backing = over.backing;
        leaves = over.leaves;
        virtual = v;
        virtual_is =
            (λ i. option_and_then (applied_sealed (pends i)) (over.leaves i))
            ∙ sealed-append (pending h log) (s ∷ []) over.backing
            ∙ ap (option_and_then (applied_sealed (s ∷ []))) before
            ∙ ap (option_and_then (applied_sealed [])) is;
        rise = rise_last 1 log next s over.rise le;
        below = λ t l. over.below t (let a : next ≤ s.ticket.0 = le in let b : s.ticket.0 + 1 ≤ t = l in omega arith);
        legal = legal_last (conflicting over.backing.schema) h log next s le over.below over.legal;
        ordered = groups_grow groups groups h log next over s v le is over.ordered;
      },
      refl,
      refl,
    )

pub live_commits : (groups : List LiveGroup) (h : List Entry) (log : List Sealed) (s : Sealed) → has_ticket s.ticket.0 h ≡ false → PendingIsLive groups h log → are_on (live_tables groups) s.ops ≡ true → PendingIsLive groups h (log ++ s ∷ [])
live_commits groups h log s fresh live on =
    ap (all_on (live_tables groups)) (pending_last h log s fresh)
    ∙ list_all-append (λ (x : Sealed). are_on (live_tables groups) x.ops) (pending h log) (s ∷ [])
    ∙ (λ i. live i && (on i && true))
