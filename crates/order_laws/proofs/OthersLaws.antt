-- Transactions of others come to the history, on tables of no live writethrough group.
use Rattle.std.proofs.Common.{◌≡◌, ℕ, Bool, true, false, cond, not, ◌||◌, Option, Some, None, List, [], ◌∷◌, ◌++◌, map, refl, sym, ap, subst, ◌∙◌, append_assoc}
use Rattle.std.specs.List.{filter, list_any}
use Rattle.std.specs.Option.{option_and_then}
use Rattle.std.proofs.lemmas.List.{map-append}
use Rattle.std.proofs.lemmas.List.Elements.{filter-append}
use Rattle.table_state.specs.tier_base.specs.declared.number.TableId.{TableId}
use Rattle.table_state.specs.table_defs.specs.declared.definition.TableDef.{TableDef}
use Rattle.table_state.specs.declared.history.Entry.{Entry}
use Rattle.table_state.specs.declared.history.Entry.TheVariants.{Definition, Foreign, Own}
use Rattle.table_state.specs.declared.history.Sealed.{Sealed}
use Rattle.table_state.specs.declared.operation.Op.{Op}
use Rattle.table_state.specs.Histories.{entry_of, has_ticket, is_of, state_from, state_of}
use Rattle.table_state.specs.Tables.{TableState}
use Rattle.table_state.specs.Operations.{applied, applied_all}
use Rattle.table_state.proofs.HistoryLaws.{has_ticket-append, state_of-append}
use Rattle.order_laws.specs.Commits.{HasOps, IsLegal, KeepsOrder, LiveGroup, Once, applied_sealed, conflicting, entry_on, in_order, is_op_on, is_other, of_group, pending}
use Rattle.order_laws.specs.Sides.{AgreeOn, IsClosed, all_on, are_off, are_on}
use Rattle.order_laws.specs.Standing.{GroupsAreOrdered, PendingIsLive, StandOver, live_tables, progress_of}
use Rattle.order_laws.proofs.AgreeLaws.{all_closed, off_part}
use Rattle.order_laws.proofs.ChainLaws.{lists_parted, nothing_parted, then_parted, turn}
use Rattle.order_laws.proofs.ComingLaws.{empty_own, none_below_more, none_on}
use Rattle.order_laws.proofs.NextLaws.{all_defined}
use Rattle.order_laws.proofs.PairLaws.{Parted}
use Rattle.order_laws.proofs.SideLaws.{OnSide, off_step, side_off, side_on, sides_apart}
use Rattle.order_laws.proofs.TruthLaws.{both_true, or_false}

-- transactions on one side, operations on the other
pub sealed_sides : (tables : List TableId) (xs : List Sealed) (ops : List Op) (s : TableState) → IsClosed tables s.schema → all_on tables xs ≡ true → OnSide tables false ops → Parted (applied_sealed xs) (applied_all ops) s
sealed_sides tables [] ops s closed on off = nothing_parted (applied_all ops) s
sealed_sides tables (x ∷ xs) ops s closed on off =
    let (first, rest) = both_true (are_on tables x.ops) (all_on tables xs) on in
    then_parted (applied_all x.ops) (applied_sealed xs) (applied_all ops) s
    (turn (applied_all ops) (applied_all x.ops) s (lists_parted x.ops ops s (sides_apart tables s.schema closed x.ops ops (side_on tables x.ops first) off)))
    (λ t is. sealed_sides tables xs ops t (subst (IsClosed tables) (sym (all_defined x.ops s t is)) closed) rest off)

-- an entry without a ticket changes nothing of what is pending and legal

module _ (e : Entry) (none : (t : ℕ) → is_of t e ≡ false) where
  pub ticket_stays : (h : List Entry) (t : ℕ) → has_ticket t (h ++ e ∷ []) ≡ has_ticket t h
  ticket_stays h t = has_ticket-append t h (e ∷ []) ∙ ap (λ b. has_ticket t h || (b || false)) (none t) ∙ or_false (has_ticket t h)

  pub pending_stays : (h : List Entry) (log : List Sealed) → pending (h ++ e ∷ []) log ≡ pending h log
  pending_stays h [] = refl
  pending_stays h (s ∷ log) = λ i. cond (not (ticket_stays h s.ticket.0 i)) (s ∷ pending_stays h log i) (pending_stays h log i)

once_other : (h : List Entry) (ops : List Op) → Once h → Once (h ++ Foreign ops ∷ [])
once_other [] ops once = tt
once_other (Definition def ∷ h) ops once = once_other h ops once
once_other (Foreign more ∷ h) ops once = once_other h ops once
once_other (Own ticket more ∷ h) ops once = (ticket_stays (Foreign ops) (λ t. refl) h ticket.0 ∙ once.0, once_other h ops once.1)

ops_other : (log : List Sealed) (h : List Entry) (ops : List Op) → HasOps log h → HasOps log (h ++ Foreign ops ∷ [])
ops_other log [] ops has = tt
ops_other log (Definition def ∷ h) ops has = ops_other log h ops has
ops_other log (Foreign more ∷ h) ops has = ops_other log h ops has
ops_other log (Own ticket more ∷ h) ops has = (has.0, ops_other log h ops has.1)

order_other : (conflict : Sealed → Sealed → Bool) (log : List Sealed) (front h : List Entry) (ops : List Op) → KeepsOrder conflict log front h → KeepsOrder conflict log front (h ++ Foreign ops ∷ [])
order_other conflict log front [] ops keeps = tt
order_other conflict log front (Definition def ∷ h) ops keeps = order_other conflict log (front ++ Definition def ∷ []) h ops keeps
order_other conflict log front (Foreign more ∷ h) ops keeps = order_other conflict log (front ++ Foreign more ∷ []) h ops keeps
order_other conflict log front (Own ticket more ∷ h) ops keeps = (keeps.0, order_other conflict log (front ++ Own ticket more ∷ []) h ops keeps.1)

order_others : (g : LiveGroup) (h : List Entry) (log : List Sealed) (ops : List Op) → list_any (is_op_on g.tables) ops ≡ false → in_order g (h ++ Foreign ops ∷ []) log ≡ in_order g h log
order_others g h log ops off =
    let group = of_group g log in
    let front = filter (is_other group) h in
    ap (λ l. state_of (map (entry_on g.tables) (l ++ map entry_of group))) (filter-append (is_other group) h (Foreign ops ∷ []))
    ∙ ap (λ l. state_of (map (entry_on g.tables) l)) (append_assoc front (Foreign ops ∷ []) (map entry_of group))
    ∙ ap state_of (map-append (entry_on g.tables) front (Foreign ops ∷ map entry_of group))
    ∙ ap (λ l. state_of (map (entry_on g.tables) front ++ Foreign l ∷ map (entry_on g.tables) (map entry_of group))) (none_on g.tables ops off)
    ∙ empty_own (map (entry_on g.tables) front) (Foreign []) (map (entry_on g.tables) (map entry_of group)) (λ s. refl)
    ∙ ap state_of (sym (map-append (entry_on g.tables) front (map entry_of group)))

groups_stay : (groups : List LiveGroup) (h : List Entry) (log : List Sealed) (schema : List TableDef) (next : ℕ) (ops : List Op) → are_off (live_tables groups) ops ≡ true → GroupsAreOrdered groups h log schema next
    → GroupsAreOrdered groups (h ++ Foreign ops ∷ []) log schema next
groups_stay [] h log schema next ops off ordered = tt
groups_stay (g ∷ groups) h log schema next ops off ordered =
    let (mine, rest) = off_part g.tables (live_tables groups) ops off in (
      record {
        closed = ordered.0.closed;
        first = ordered.0.first;
        none_below = none_below_more g h (Foreign ops ∷ []) log ordered.0.none_below;
        state = ordered.0.state;
        ordered = order_others g h log ops mine ∙ ordered.0.ordered;
      },
      groups_stay groups h log schema next ops rest ordered.1,
    )

-- operations on other tables leave these alone
pub beside : (tables : List TableId) (ops : List Op) (s t n : TableState) → OnSide tables false ops → applied_all ops s ≡ Some t → AgreeOn tables s n → AgreeOn tables t n
beside tables [] s t n off is agree = let same : s ≡ t = cc in subst (λ (x : TableState). AgreeOn tables x n) same agree
beside tables (op ∷ ops) s t n off is agree = by (applied op s) refl is (beside tables ops)
  where
    by : (o : Option TableState) → applied op s ≡ o → option_and_then (applied_all ops) o ≡ Some t
        → ((s t n : TableState) → OnSide tables false ops → applied_all ops s ≡ Some t → AgreeOn tables s n → AgreeOn tables t n) → AgreeOn tables t n
    by None e h rest = cc
    by (Some x) e h rest = rest x t n off.1 h (off_step tables op s x n agree off.0 e)

agree_itself : (tables : List TableId) (s : TableState) → AgreeOn tables s s
agree_itself tables s = record { schema = refl; size = refl; rows = λ t on. refl }

pub agree_turned : (tables : List TableId) (s n : TableState) → AgreeOn tables s n → AgreeOn tables n s
agree_turned tables s n agree = record { schema = sym agree.schema; size = sym agree.size; rows = λ t on. sym (agree.rows t on) }

pub others_come : (groups : List LiveGroup) (h : List Entry) (log : List Sealed) (next : ℕ) (over : StandOver (progress_of groups h log next)) (ops : List Op) (b : TableState) → PendingIsLive groups h log → applied_all ops over.backing ≡ Some b
    → are_off (live_tables groups) ops ≡ true → (now : StandOver (progress_of groups (h ++ Foreign ops ∷ []) log next)) × AgreeOn (live_tables groups) over.virtual now.virtual
others_come groups h log next over ops b live is off =
    let closed = all_closed groups h log over.backing.schema next over.ordered in
    let pends : applied_sealed (pending h log) over.backing ≡ Some over.virtual = sym (ap (option_and_then (applied_sealed (pending h log))) over.leaves) ∙ over.virtual_is in
    let (z, ops_behind, pending_behind) = (sealed_sides (live_tables groups) (pending h log) ops over.backing closed live (side_off (live_tables groups) ops off)).both over.virtual b pends is in
    let same : b.schema ≡ over.backing.schema = all_defined ops over.backing b is in
    let leaves : state_of (h ++ Foreign ops ∷ []) ≡ Some b =
    state_of-append h (Foreign ops ∷ []) ∙ ap (option_and_then (state_from (Foreign ops ∷ []))) over.leaves ∙ ap (option_and_then (state_from [])) is
    in (
      record {
        backing = b;
        leaves = leaves;
        virtual = z;
        virtual_is = (λ i. option_and_then (applied_sealed (pending_stays (Foreign ops) (λ t. refl) h log i)) (leaves i)) ∙ pending_behind;
        rise = over.rise;
        below = λ t le. ticket_stays (Foreign ops) (λ t. refl) h t ∙ over.below t le;
        legal = subst (λ (l : List TableDef). IsLegal (conflicting l) (h ++ Foreign ops ∷ []) log) (sym same) (record {
          once = once_other h ops over.legal.once;
          ops = ops_other log h ops over.legal.ops;
          order = order_other (conflicting over.backing.schema) log [] h ops over.legal.order;
        });
        ordered = subst (λ (l : List TableDef). GroupsAreOrdered groups (h ++ Foreign ops ∷ []) log l next) (sym same) (groups_stay groups h log over.backing.schema next ops off over.ordered);
      },
      agree_turned (live_tables groups) z over.virtual (beside (live_tables groups) ops over.virtual z over.virtual (side_off (live_tables groups) ops off) ops_behind (agree_itself (live_tables groups) over.virtual)),
    )
