-- A pending transaction comes to the history, and all stands as before.
use Rattle.std.proofs.Common.{◌≡◌, ℕ, ◌+◌, ◌≤◌, Bool, true, false, cond, not, ◌&&◌, ◌||◌, nat_eq, Option, Some, None, List, [], ◌∷◌, ◌++◌, map, refl, sym, ap, subst, ◌∙◌, arith, eq-eqb, append-nil, append_assoc, le-leb}
use Rattle.std.specs.List.{filter, list_all, list_any}
use Rattle.std.specs.Option.{option_and_then}
use Rattle.std.proofs.lemmas.List.{map-append}
use Rattle.std.proofs.lemmas.List.Elements.{filter-append}
use Rattle.table_state.specs.tier_base.specs.declared.number.TableId.{TableId}
use Rattle.table_state.specs.table_defs.specs.declared.definition.TableDef.{TableDef}
use Rattle.table_state.specs.declared.history.Entry.{Entry}
use Rattle.table_state.specs.declared.history.Entry.TheVariants.{Own}
use Rattle.table_state.specs.declared.history.Sealed.{Sealed}
use Rattle.table_state.specs.declared.operation.Op.{Op}
use Rattle.table_state.specs.Histories.{entry_of, has_ticket, state_from, state_of}
use Rattle.table_state.specs.Tables.{TableState}
use Rattle.table_state.specs.Operations.{applied_all}
use Rattle.table_state.proofs.HistoryLaws.{has_ticket-append, state_of-append}
use Rattle.order_laws.specs.Commits.{IsInLog, IsLegal, LiveGroup, MayCome, NoneBelow, RiseBetween, applied_sealed, conflicting, entry_on, in_order, is_of_group, is_op_on, is_other, is_pending, of_group, ops_on, pending, virtual_state}
use Rattle.order_laws.specs.Sides.{are_on}
use Rattle.order_laws.specs.Standing.{GroupsAreOrdered, PendingIsLive, StandOver, live_tables, progress_of}
use Rattle.order_laws.proofs.NextLaws.{all_defined, by_option, legal_behind, nat_eq_other, virtual_stays}
use Rattle.order_laws.proofs.StepLaws.{or_none}
use Rattle.order_laws.proofs.TruthLaws.{both_true, never_both, not_both, once_more, or_true, some_none}

-- an entry without operations does nothing

pub empty_own : (xs : List Entry) (e : Entry) (ys : List Entry) → ((s : TableState) → state_from (e ∷ ys) s ≡ state_from ys s) → state_of (xs ++ e ∷ ys) ≡ state_of (xs ++ ys)
empty_own xs e ys nothing =
    state_of-append xs (e ∷ ys) ∙ by_option (state_from (e ∷ ys)) (state_from ys) nothing (state_of xs) ∙ sym (state_of-append xs ys)

pub none_on : (tables : List TableId) (ops : List Op) → list_any (is_op_on tables) ops ≡ false → ops_on tables ops ≡ []
none_on tables [] e = refl
none_on tables (op ∷ ops) e = let (first, rest) = or_none (is_op_on tables op) (list_any (is_op_on tables) ops) e in ap (λ b. cond b (op ∷ ops_on tables ops) (ops_on tables ops)) first ∙ none_on tables ops rest

-- a kept one is there
kept_has : (p : Sealed → Bool) (xs : List Sealed) (j : Sealed) (ys : List Sealed) → p j ≡ true → has_ticket j.ticket.0 (map entry_of (filter p (xs ++ j ∷ ys))) ≡ true
kept_has p [] j ys kept = ap (λ b. has_ticket j.ticket.0 (map entry_of (cond b (j ∷ filter p ys) (filter p ys)))) kept ∙ ap (λ b. b || has_ticket j.ticket.0 (map entry_of (filter p ys))) (eq-eqb j.ticket.0 j.ticket.0 refl)
kept_has p (x ∷ xs) j ys kept =
    elim (p x) as (λ b. has_ticket j.ticket.0 (map entry_of (cond b (x ∷ filter p (xs ++ j ∷ ys)) (filter p (xs ++ j ∷ ys)))) ≡ true) [
      | true ↦ ap (λ b. nat_eq x.ticket.0 j.ticket.0 || b) (kept_has p xs j ys kept) ∙ or_true (nat_eq x.ticket.0 j.ticket.0)
      | false ↦ kept_has p xs j ys kept
    ]

none_at : (g : LiveGroup) (h : List Entry) (xs : List Sealed) (j : Sealed) (ys : List Sealed) → NoneBelow g h (xs ++ j ∷ ys) → is_pending h j ≡ true → list_any (is_op_on g.tables) j.ops ≡ true → g.first ≤ j.ticket.0
none_at g h [] j ys none = none.0
none_at g h (x ∷ xs) j ys none = none_at g h xs j ys none.1

-- the group's order stays
pub order_stays : (g : LiveGroup) (h : List Entry) (log : List Sealed) (j : Sealed) → IsInLog log j → has_ticket j.ticket.0 h ≡ false → NoneBelow g h log → in_order g (h ++ entry_of j ∷ []) log ≡ in_order g h log
order_stays g h log j one fresh none =
    ap (λ l. state_of (map (entry_on g.tables) (l ++ map entry_of group))) (filter-append (is_other group) h (entry_of j ∷ []))
    ∙ by (has_ticket j.ticket.0 (map entry_of group)) refl
  where
    group : List Sealed
    group = of_group g log

    is_in : is_of_group g j ≡ true → has_ticket j.ticket.0 (map entry_of group) ≡ true
    is_in e = ap (λ l. has_ticket j.ticket.0 (map entry_of (of_group g l))) one.is ∙ kept_has (is_of_group g) one.before j one.behind e

    writes_none : has_ticket j.ticket.0 (map entry_of group) ≡ false → list_any (is_op_on g.tables) j.ops ≡ false
    writes_none e = not_both (list_any (is_op_on g.tables) j.ops) (λ on.
        let le : g.first ≤ j.ticket.0 = none_at g h one.before j one.behind (subst (λ (l : List Sealed). NoneBelow g h l) one.is none) (ap not fresh) on in
        never_both (has_ticket j.ticket.0 (map entry_of group)) (is_in ((λ i. le-leb g.first j.ticket.0 le i && on i))) e)

    by : (b : Bool) → has_ticket j.ticket.0 (map entry_of group) ≡ b
        → state_of (map (entry_on g.tables) ((filter (is_other group) h ++ cond (not b) (entry_of j ∷ []) []) ++ map entry_of group)) ≡ in_order g h log
    by true e = ap (λ l. state_of (map (entry_on g.tables) (l ++ map entry_of group))) (append-nil (filter (is_other group) h))
    by false e =
        let front = filter (is_other group) h in
        ap (λ l. state_of (map (entry_on g.tables) l)) (append_assoc front (entry_of j ∷ []) (map entry_of group))
        ∙ ap state_of (map-append (entry_on g.tables) front (entry_of j ∷ map entry_of group))
        ∙ ap (λ ops. state_of (map (entry_on g.tables) front ++ Own j.ticket ops ∷ map (entry_on g.tables) (map entry_of group))) (none_on g.tables j.ops (writes_none e))
        ∙ empty_own (map (entry_on g.tables) front) (Own j.ticket []) (map (entry_on g.tables) (map entry_of group)) (λ s. refl)
        ∙ ap state_of (sym (map-append (entry_on g.tables) front (map entry_of group)))

-- what is pending then was pending

pub not_or : (a b : Bool) → not (a || b) ≡ true → not a ≡ true
not_or true b e = e
not_or false b e = refl

pub was_pending : (h more : List Entry) (s : Sealed) → is_pending (h ++ more) s ≡ true → is_pending h s ≡ true
was_pending h more s e = not_or (has_ticket s.ticket.0 h) (has_ticket s.ticket.0 more) (ap not (sym (has_ticket-append s.ticket.0 h more)) ∙ e)

pub none_below_more : (g : LiveGroup) (h more : List Entry) (log : List Sealed) → NoneBelow g h log → NoneBelow g (h ++ more) log
none_below_more g h more [] none = tt
none_below_more g h more (s ∷ log) none = (λ p on. none.0 (was_pending h more s p) on, none_below_more g h more log none.1)

pub all_fewer : (q p p' : Sealed → Bool) → ((s : Sealed) → p' s ≡ true → p s ≡ true) → (ss : List Sealed) → list_all q (filter p ss) ≡ true → list_all q (filter p' ss) ≡ true
all_fewer q p p' fewer [] all = refl
all_fewer q p p' fewer (s ∷ ss) all = by (p s) refl (p' s) refl all (all_fewer q p p' fewer ss)
  where
    by : (b : Bool) → p s ≡ b → (c : Bool) → p' s ≡ c → list_all q (cond b (s ∷ filter p ss) (filter p ss)) ≡ true → (list_all q (filter p ss) ≡ true → list_all q (filter p' ss) ≡ true)
        → list_all q (cond c (s ∷ filter p' ss) (filter p' ss)) ≡ true
    by true e true f all rest = let (first, more) = both_true (q s) (list_all q (filter p ss)) all in λ i. ((first ∙ refl) i && rest more i)
    by true e false f all rest = rest (both_true (q s) (list_all q (filter p ss)) all).1
    by false e true f all rest = absurd (never_both (p s) (fewer s f) e)
    by false e false f all rest = rest all

pub below_high : (low : ℕ) (xs : List Sealed) (j : Sealed) (ys : List Sealed) (high : ℕ) → RiseBetween low (xs ++ j ∷ ys) high → j.ticket.0 + 1 ≤ high
below_high low [] j ys high rise = most (j.ticket.0 + 1) ys high rise.1
  where
    most : (low : ℕ) (ss : List Sealed) (high : ℕ) → RiseBetween low ss high → low ≤ high
    most low [] high rise = rise
    most low (s ∷ ss) high rise = let first : low ≤ s.ticket.0 = rise.0 in let more : s.ticket.0 + 1 ≤ high = most (s.ticket.0 + 1) ss high rise.1 in omega arith
below_high low (x ∷ xs) j ys high rise = below_high (x.ticket.0 + 1) xs j ys high rise.1

pub live_comes : (groups : List LiveGroup) (h more : List Entry) (log : List Sealed) → PendingIsLive groups h log → PendingIsLive groups (h ++ more) log
live_comes groups h more log live = all_fewer (λ s. are_on (live_tables groups) s.ops) (is_pending h) (is_pending (h ++ more)) (was_pending h more) log live

-- all of it

groups_come : (groups : List LiveGroup) (h : List Entry) (log : List Sealed) (schema : List TableDef) (next : ℕ) (j : Sealed) → IsInLog log j → has_ticket j.ticket.0 h ≡ false → GroupsAreOrdered groups h log schema next
    → GroupsAreOrdered groups (h ++ entry_of j ∷ []) log schema next
groups_come [] h log schema next j one fresh ordered = tt
groups_come (g ∷ groups) h log schema next j one fresh ordered = (
  record {
    closed = ordered.0.closed;
    first = ordered.0.first;
    none_below = none_below_more g h (entry_of j ∷ []) log ordered.0.none_below;
    state = ordered.0.state;
    ordered = order_stays g h log j one fresh ordered.0.none_below ∙ ordered.0.ordered;
  },
  groups_come groups h log schema next j one fresh ordered.1,
)

pub comes_leaving : (groups : List LiveGroup) (h : List Entry) (log : List Sealed) (next : ℕ) (j : Sealed) (over : StandOver (progress_of groups h log next)) → MayCome (conflicting over.backing.schema) h log j
    → (now : StandOver (progress_of groups (h ++ entry_of j ∷ []) log next)) × (now.virtual ≡ over.virtual)
comes_leaving groups h log next j over may = by (applied_all j.ops over.backing) refl
  where
    state : state_of (h ++ entry_of j ∷ []) ≡ applied_all j.ops over.backing
    state = state_of-append h (entry_of j ∷ []) ∙ ap (option_and_then (state_from (entry_of j ∷ []))) over.leaves ∙ once_more (applied_all j.ops over.backing)

    virtual : virtual_state (h ++ entry_of j ∷ []) log ≡ Some over.virtual
    virtual = virtual_stays h over.backing 1 log next j over.leaves over.rise may ∙ over.virtual_is

    by : (o : Option TableState) → applied_all j.ops over.backing ≡ o → (now : StandOver (progress_of groups (h ++ entry_of j ∷ []) log next)) × (now.virtual ≡ over.virtual)
    by None e = let none : None ≡ Some over.virtual = sym (ap (option_and_then (applied_sealed (pending (h ++ entry_of j ∷ []) log))) (state ∙ e)) ∙ virtual in absurd (some_none none)
    by (Some b) e =
        let same : b.schema ≡ over.backing.schema = all_defined j.ops over.backing b e in (
          record {
            backing = b;
            leaves = state ∙ e;
            virtual = over.virtual;
            virtual_is = virtual;
            rise = over.rise;
            below = λ t le.
                let lt : j.ticket.0 + 1 ≤ next = below_high 1 may.one.before j may.one.behind next (subst (λ (l : List Sealed). RiseBetween 1 l next) may.one.is over.rise) in
                has_ticket-append t h (entry_of j ∷ []) ∙ (λ i. over.below t le i || (nat_eq_other j.ticket.0 t (λ e. absurd (let n : next ≤ t = le in omega arith)) i || false));
            legal = subst (λ (l : List TableDef). IsLegal (conflicting l) (h ++ entry_of j ∷ []) log) (sym same) (legal_behind (conflicting over.backing.schema) h 1 log next j over.rise over.legal may);
            ordered = subst (λ (l : List TableDef). GroupsAreOrdered groups (h ++ entry_of j ∷ []) log l next) (sym same) (groups_come groups h log over.backing.schema next j may.one may.fresh over.ordered);
          },
          refl,
        )
