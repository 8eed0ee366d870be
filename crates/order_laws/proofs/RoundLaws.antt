-- A round: pending transactions come in any order that keeps conflicting ones in commit order.
use Rattle.std.proofs.Common.{◌≡◌, ℕ, Bool, true, false, ◌||◌, nat_eq, Option, Some, None, List, [], ◌∷◌, ◌++◌, map, refl, sym, ap, subst, ◌∙◌, append_assoc, append-nil, eq-eqb}
use Rattle.std.specs.Option.{option_and_then}
use Rattle.std.proofs.lemmas.List.{map-append}
use Rattle.table_state.specs.tier_base.specs.declared.number.Ticket.{Ticket}
use Rattle.table_state.specs.table_defs.specs.declared.definition.TableDef.{TableDef}
use Rattle.table_state.specs.declared.history.Entry.{Entry}
use Rattle.table_state.specs.declared.history.Entry.TheVariants.{Definition, Foreign, Own}
use Rattle.table_state.specs.declared.history.Sealed.{Sealed}
use Rattle.table_state.specs.declared.operation.Op.{Op}
use Rattle.table_state.specs.Histories.{entry_of, has_ticket, state_from, state_of}
use Rattle.table_state.specs.Tables.{TableState}
use Rattle.table_state.specs.Operations.{applied_all}
use Rattle.table_state.proofs.HistoryLaws.{has_ticket-append, state_of-append}
use Rattle.order_laws.specs.Commits.{FollowsLower, IsInLog, IsLegal, KeepsOrder, LiveGroup, MayCome, Once, conflicting}
use Rattle.order_laws.specs.Sides.{AgreeOn}
use Rattle.order_laws.specs.Standing.{PendingIsLive, StandOver, live_tables, progress_of}
use Rattle.order_laws.specs.Steps.{AreRoundEntries}
use Rattle.order_laws.proofs.ComingLaws.{comes_leaving, live_comes}
use Rattle.order_laws.proofs.CommittingLaws.{schemas_same}
use Rattle.order_laws.proofs.NextLaws.{nat_eq_other}
use Rattle.order_laws.proofs.OthersLaws.{others_come}
use Rattle.order_laws.proofs.TruthLaws.{never_both, once_more, or_true}

pub once_before : (xs : List Entry) (ticket : Ticket) (ops : List Op) (ys : List Entry) → Once (xs ++ Own ticket ops ∷ ys) → has_ticket ticket.0 xs ≡ false
once_before [] ticket ops ys once = refl
once_before (Definition def ∷ xs) ticket ops ys once = once_before xs ticket ops ys once
once_before (Foreign more ∷ xs) ticket ops ys once = once_before xs ticket ops ys once
once_before (Own t more ∷ xs) ticket ops ys once =
    let there : has_ticket ticket.0 (xs ++ Own ticket ops ∷ ys) ≡ true =
    has_ticket-append ticket.0 xs (Own ticket ops ∷ ys) ∙ ap (λ b. has_ticket ticket.0 xs || (b || has_ticket ticket.0 ys)) (eq-eqb ticket.0 ticket.0 refl) ∙ or_true (has_ticket ticket.0 xs)
    in
    let other : nat_eq t.0 ticket.0 ≡ false = nat_eq_other t.0 ticket.0 (λ e. never_both (has_ticket ticket.0 (xs ++ Own ticket ops ∷ ys)) there (ap (λ n. has_ticket n (xs ++ Own ticket ops ∷ ys)) (sym e) ∙ once.0)) in
    λ i. other i || once_before xs ticket ops ys once.1 i

pub follows_at : (conflict : Sealed → Sealed → Bool) (log : List Sealed) (front xs : List Entry) (ticket : Ticket) (ops : List Op) (ys : List Entry) → has_ticket ticket.0 (map entry_of log) ≡ true
    → KeepsOrder conflict log front (xs ++ Own ticket ops ∷ ys) → FollowsLower conflict log (record { ticket = ticket; ops = ops }) (front ++ xs)
follows_at conflict log front [] ticket ops ys stands keeps = subst (λ (l : List Entry). FollowsLower conflict log (record { ticket = ticket; ops = ops }) l) (sym (append-nil front)) (keeps.0 stands)
follows_at conflict log front (Definition def ∷ xs) ticket ops ys stands keeps =
    subst (λ (l : List Entry). FollowsLower conflict log (record { ticket = ticket; ops = ops }) l) (append_assoc front (Definition def ∷ []) xs) (follows_at conflict log (front ++ Definition def ∷ []) xs ticket ops ys stands keeps)
follows_at conflict log front (Foreign more ∷ xs) ticket ops ys stands keeps =
    subst (λ (l : List Entry). FollowsLower conflict log (record { ticket = ticket; ops = ops }) l) (append_assoc front (Foreign more ∷ []) xs) (follows_at conflict log (front ++ Foreign more ∷ []) xs ticket ops ys stands keeps)
follows_at conflict log front (Own t more ∷ xs) ticket ops ys stands keeps =
    subst (λ (l : List Entry). FollowsLower conflict log (record { ticket = ticket; ops = ops }) l) (append_assoc front (Own t more ∷ []) xs) (follows_at conflict log (front ++ Own t more ∷ []) xs ticket ops ys stands keeps.1)

pub in_log : (log : List Sealed) (s : Sealed) → IsInLog log s → has_ticket s.ticket.0 (map entry_of log) ≡ true
in_log log s one =
    ap (λ l. has_ticket s.ticket.0 (map entry_of l)) one.is
    ∙ ap (has_ticket s.ticket.0) (map-append entry_of one.before (s ∷ one.behind))
    ∙ has_ticket-append s.ticket.0 (map entry_of one.before) (map entry_of (s ∷ one.behind))
    ∙ ap (λ b. has_ticket s.ticket.0 (map entry_of one.before) || (b || has_ticket s.ticket.0 (map entry_of one.behind))) (eq-eqb s.ticket.0 s.ticket.0 refl)
    ∙ or_true (has_ticket s.ticket.0 (map entry_of one.before))

front_leaves : (h : List Entry) (e : Entry) (tail : List Entry) (n : TableState) → state_of (h ++ e ∷ tail) ≡ Some n → (t : TableState) × (state_of (h ++ e ∷ []) ≡ Some t)
front_leaves h e tail n is = by (state_of (h ++ e ∷ [])) refl (sym (state_of-append (h ++ e ∷ []) tail) ∙ ap state_of (append_assoc h (e ∷ []) tail) ∙ is)
  where
    by : (o : Option TableState) → state_of (h ++ e ∷ []) ≡ o → option_and_then (state_from tail) o ≡ Some n → (t : TableState) × (state_of (h ++ e ∷ []) ≡ Some t)
    by None f g = cc
    by (Some t) f g = (t, f)

others_step : (groups : List LiveGroup) (h : List Entry) (log : List Sealed) (next : ℕ) (over : StandOver (progress_of groups h log next)) (ops : List Op) (t : TableState) → state_of (h ++ Foreign ops ∷ []) ≡ Some t → applied_all ops over.backing ≡ Some t
others_step groups h log next over ops t is =
    sym (once_more (applied_all ops over.backing)) ∙ sym (state_of-append h (Foreign ops ∷ []) ∙ ap (option_and_then (state_from (Foreign ops ∷ []))) over.leaves) ∙ is

agree_through : (groups : List LiveGroup) (s t u : TableState) → AgreeOn (live_tables groups) s t → AgreeOn (live_tables groups) t u → AgreeOn (live_tables groups) s u
agree_through groups s t u a b = record { schema = b.schema ∙ a.schema; size = b.size ∙ a.size; rows = λ v on. b.rows v on ∙ a.rows v on }

-- what a round leaves
pub record StaysOver (groups : List LiveGroup) (history : List Entry) (log : List Sealed) (next : ℕ) (virtual : TableState) : Type 0 where
  pub over : StandOver (progress_of groups history log next)
  pub live : PendingIsLive groups history log
  pub same : AgreeOn (live_tables groups) virtual over.virtual

pub round_comes : (groups : List LiveGroup) (tail h : List Entry) (log : List Sealed) (next : ℕ) (over : StandOver (progress_of groups h log next)) (n : TableState) → PendingIsLive groups h log → state_of (h ++ tail) ≡ Some n → AreRoundEntries groups log tail
    → IsLegal (conflicting over.backing.schema) (h ++ tail) log → StaysOver groups (h ++ tail) log next over.virtual
round_comes groups [] h log next over n live leaves round legal = subst (λ (l : List Entry). StaysOver groups l log next over.virtual) (sym (append-nil h)) (record {
  over = over;
  live = live;
  same = record { schema = refl; size = refl; rows = λ t on. refl };
})
round_comes groups (Definition def ∷ tail) h log next over n live leaves round legal = absurd round
round_comes groups (Foreign ops ∷ tail) h log next over n live leaves round legal =
    let (t, t_is) = front_leaves h (Foreign ops) tail n leaves in
    let (now, agree) = others_come groups h log next over ops t live (others_step groups h log next over ops t t_is) round.0 in
    let whole = append_assoc h (Foreign ops ∷ []) tail in
    let schema : over.backing.schema ≡ now.backing.schema =
    sym (schemas_same h log over.backing over.virtual over.leaves over.virtual_is) ∙ sym agree.schema ∙ schemas_same (h ++ Foreign ops ∷ []) log now.backing now.virtual now.leaves now.virtual_is
    in
    let rest = round_comes groups tail (h ++ Foreign ops ∷ []) log next now n (live_comes groups h (Foreign ops ∷ []) log live) (ap state_of whole ∙ leaves) round.1
    (subst (λ (l : List TableDef). IsLegal (conflicting l) ((h ++ Foreign ops ∷ []) ++ tail) log) schema (subst (λ (l : List Entry). IsLegal (conflicting over.backing.schema) l log) (sym whole) legal))
    in
    subst (λ (l : List Entry). StaysOver groups l log next over.virtual) whole (record {
      over = rest.over;
      live = rest.live;
      same = agree_through groups over.virtual now.virtual rest.over.virtual agree rest.same;
    })
round_comes groups (Own ticket ops ∷ tail) h log next over n live leaves round legal =
    let s : Sealed = record { ticket = ticket; ops = ops } in
    let may : MayCome (conflicting over.backing.schema) h log s = record {
      one = round.0;
      fresh = once_before h ticket ops tail legal.once;
      follows = follows_at (conflicting over.backing.schema) log [] h ticket ops tail (in_log log s round.0) legal.order;
    } in
    let (now, same) = comes_leaving groups h log next s over may in
    let whole = append_assoc h (Own ticket ops ∷ []) tail in
    let schema : over.backing.schema ≡ now.backing.schema =
    sym (schemas_same h log over.backing over.virtual over.leaves over.virtual_is) ∙ ap (λ x. x.schema) (sym same) ∙ schemas_same (h ++ Own ticket ops ∷ []) log now.backing now.virtual now.leaves now.virtual_is
    in
    let rest = round_comes groups tail (h ++ Own ticket ops ∷ []) log next now n (live_comes groups h (Own ticket ops ∷ []) log live) (ap state_of whole ∙ leaves) round.1
    (subst (λ (l : List TableDef). IsLegal (conflicting l) ((h ++ Own ticket ops ∷ []) ++ tail) log) schema (subst (λ (l : List Entry). IsLegal (conflicting over.backing.schema) l log) (sym whole) legal))
    in
    subst (λ (l : List Entry). StaysOver groups l log next over.virtual) whole (record {
      over = rest.over;
      live = rest.live;
      same = subst (λ (x : TableState). AgreeOn (live_tables groups) x rest.over.virtual) same rest.same;
    })
