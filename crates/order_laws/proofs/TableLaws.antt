-- A table is defined: all stands as before, with the new table without rows.
use Rattle.std.proofs.Common.{◌≡◌, ℕ, zero, suc, Bool, true, false, ◌&&◌, ◌||◌, nat_eq, Option, Some, None, is_some, List, [], ◌∷◌, ◌++◌, map, slice_get, refl, sym, ap, ◌∙◌, append_assoc, eqb-true}
use Rattle.std.specs.List.{filter, flat_map, list_all}
use Rattle.std.specs.Option.{option_and_then}
use Rattle.std.proofs.lemmas.List.{map-append}
use Rattle.std.proofs.lemmas.List.Elements.{filter-append}
use Rattle.table_state.specs.tier_base.specs.declared.number.TableId.{TableId}
use Rattle.table_state.specs.tier_base.specs.declared.number.Ticket.{Ticket}
use Rattle.table_state.specs.table_defs.specs.declared.definition.TableDef.{TableDef}
use Rattle.table_state.specs.declared.history.Entry.{Entry}
use Rattle.table_state.specs.declared.history.Entry.TheVariants.{Definition, Foreign, Own}
use Rattle.table_state.specs.declared.history.Sealed.{Sealed}
use Rattle.table_state.specs.declared.operation.Op.{Op}
use Rattle.table_state.specs.Footprints.{conflict, footprint_of, referred_by, referred_key, rows_of, written_by, written_key}
use Rattle.table_state.specs.Histories.{entry_of, has_ticket, no_tables, state_from, state_of}
use Rattle.table_state.specs.Independence.{IsWhole, with_new}
use Rattle.table_state.specs.Tables.{TableState}
use Rattle.table_state.specs.Operations.{applied, applied_all, table_of}
use Rattle.table_state.proofs.HistoryLaws.{state_of-append}
use Rattle.table_state.proofs.IndependenceLaws.{all_later, all_whole, history_whole, stays_defined}
use Rattle.order_laws.specs.Commits.{AreOps, FollowsLower, HasOps, KeepsOrder, LiveGroup, Once, applied_sealed, conflicting, entry_on, in_order, is_other, of_group, ops_on, pending}
use Rattle.order_laws.specs.Standing.{AreClosed, AreOnDefined, GroupsAreOrdered, StandOver, are_on_defined, progress_of}
use Rattle.order_laws.proofs.ComingLaws.{none_below_more}
use Rattle.order_laws.proofs.OthersLaws.{pending_stays, ticket_stays}
use Rattle.order_laws.proofs.StepLaws.{parts}
use Rattle.order_laws.proofs.TruthLaws.{both_true}

-- footprints of operations on tables that are there

pub get_same : {X : Type 0} (xs ys : List X) (i : ℕ) → is_some (slice_get xs i) ≡ true → slice_get (xs ++ ys) i ≡ slice_get xs i
get_same [] ys i e = cc
get_same (x ∷ xs) ys zero e = refl
get_same (x ∷ xs) ys (suc i) e = get_same xs ys i e

pub footprint_later : (schema more : List TableDef) (ops : List Op) → are_on_defined schema ops ≡ true → footprint_of (schema ++ more) ops ≡ footprint_of schema ops
footprint_later schema more ops known = λ i. record { written = written ops known i; referred = referred ops known i }
  where
    written : (ops : List Op) → are_on_defined schema ops ≡ true → flat_map (written_by (schema ++ more)) ops ≡ flat_map (written_by schema) ops
    written [] known = refl
    written (op ∷ ops) known =
        let (first, rest) = both_true (is_some (slice_get schema (table_of op).0)) (are_on_defined schema ops) known in
        λ i. flat_map (written_key (table_of op) (get_same schema more (table_of op).0 first i)) (rows_of op) ++ written ops rest i

    referred : (ops : List Op) → are_on_defined schema ops ≡ true → flat_map (referred_by (schema ++ more)) ops ≡ flat_map (referred_by schema) ops
    referred [] known = refl
    referred (op ∷ ops) known =
        let (first, rest) = both_true (is_some (slice_get schema (table_of op).0)) (are_on_defined schema ops) known in
        λ i. flat_map (referred_key (get_same schema more (table_of op).0 first i)) (rows_of op) ++ referred ops rest i

follows_later : (schema more : List TableDef) (log : List Sealed) (x : Sealed) (front : List Entry) → AreOnDefined schema log → are_on_defined schema x.ops ≡ true → FollowsLower (conflicting schema) log x front → FollowsLower (conflicting (schema ++ more)) log x front
follows_later schema more [] x front known x_known follows = tt
follows_later schema more (y ∷ log) x front known x_known follows =
    let (first, rest) = both_true (are_on_defined schema y.ops) (list_all (λ (s : Sealed). are_on_defined schema s.ops) log) known in
    let same : conflicting (schema ++ more) y x ≡ conflicting schema y x = λ i. conflict (footprint_later schema more y.ops first i) (footprint_later schema more x.ops x_known i) in
    (λ below conflicts. follows.0 below (sym same ∙ conflicts), follows_later schema more log x front rest x_known follows.1)

known_of : (schema : List TableDef) (log : List Sealed) (ticket : Ticket) (ops : List Op) → AreOnDefined schema log → AreOps log ticket ops → has_ticket ticket.0 (map entry_of log) ≡ true → are_on_defined schema ops ≡ true
known_of schema [] ticket ops known are stands = cc
known_of schema (s ∷ log) ticket ops known are stands = by (nat_eq s.ticket.0 ticket.0) refl stands (known_of schema log ticket ops rest are.1)
  where
    rest : AreOnDefined schema log
    rest = (both_true (are_on_defined schema s.ops) (list_all (λ (s : Sealed). are_on_defined schema s.ops) log) known).1

    by : (b : Bool) → nat_eq s.ticket.0 ticket.0 ≡ b → (b || has_ticket ticket.0 (map entry_of log)) ≡ true → (has_ticket ticket.0 (map entry_of log) ≡ true → are_on_defined schema ops ≡ true) → are_on_defined schema ops ≡ true
    by true e stands more = ap (are_on_defined schema) (are.0 (eqb-true s.ticket.0 ticket.0 e)) ∙ (both_true (are_on_defined schema s.ops) (list_all (λ (s : Sealed). are_on_defined schema s.ops) log) known).0
    by false e stands more = more stands

order_later : (schema more : List TableDef) (log : List Sealed) (front h : List Entry) → AreOnDefined schema log → HasOps log h → KeepsOrder (conflicting schema) log front h → KeepsOrder (conflicting (schema ++ more)) log front h
order_later schema more log front [] known has keeps = tt
order_later schema more log front (Definition def ∷ h) known has keeps = order_later schema more log (front ++ Definition def ∷ []) h known has keeps
order_later schema more log front (Foreign ops ∷ h) known has keeps = order_later schema more log (front ++ Foreign ops ∷ []) h known has keeps
order_later schema more log front (Own ticket ops ∷ h) known has keeps = (
  λ stands. follows_later schema more log (record { ticket = ticket; ops = ops }) front known (known_of schema log ticket ops known has.0 stands) (keeps.0 stands),
  order_later schema more log (front ++ Own ticket ops ∷ []) h known has.1 keeps.1,
)

-- a definition behind

once_def : (h : List Entry) (d : TableDef) → Once h → Once (h ++ Definition d ∷ [])
once_def [] d once = tt
once_def (Definition def ∷ h) d once = once_def h d once
once_def (Foreign ops ∷ h) d once = once_def h d once
once_def (Own ticket ops ∷ h) d once = (ticket_stays (Definition d) (λ t. refl) h ticket.0 ∙ once.0, once_def h d once.1)

ops_def : (log : List Sealed) (h : List Entry) (d : TableDef) → HasOps log h → HasOps log (h ++ Definition d ∷ [])
ops_def log [] d has = tt
ops_def log (Definition def ∷ h) d has = ops_def log h d has
ops_def log (Foreign ops ∷ h) d has = ops_def log h d has
ops_def log (Own ticket ops ∷ h) d has = (has.0, ops_def log h d has.1)

order_def : (conflict : Sealed → Sealed → Bool) (log : List Sealed) (front h : List Entry) (d : TableDef) → KeepsOrder conflict log front h → KeepsOrder conflict log front (h ++ Definition d ∷ [])
order_def conflict log front [] d keeps = tt
order_def conflict log front (Definition def ∷ h) d keeps = order_def conflict log (front ++ Definition def ∷ []) h d keeps
order_def conflict log front (Foreign ops ∷ h) d keeps = order_def conflict log (front ++ Foreign ops ∷ []) h d keeps
order_def conflict log front (Own ticket ops ∷ h) d keeps = (keeps.0, order_def conflict log (front ++ Own ticket ops ∷ []) h d keeps.1)

-- what applies later

sealed_later : (def : TableDef) (xs : List Sealed) (s n : TableState) → IsWhole s → applied_sealed xs s ≡ Some n → applied_sealed xs (with_new def s) ≡ Some (with_new def n)
sealed_later def [] s n whole is = let same : s ≡ n = cc in ap (λ x. Some (with_new def x)) same
sealed_later def (x ∷ xs) s n whole is = by (applied_all x.ops s) refl is (sealed_later def xs)
  where
    by : (o : Option TableState) → applied_all x.ops s ≡ o → option_and_then (applied_sealed xs) o ≡ Some n → ((s n : TableState) → IsWhole s → applied_sealed xs s ≡ Some n → applied_sealed xs (with_new def s) ≡ Some (with_new def n))
        → option_and_then (applied_sealed xs) (applied_all x.ops (with_new def s)) ≡ Some (with_new def n)
    by None e h rest = cc
    by (Some t) e h rest = ap (option_and_then (applied_sealed xs)) (all_later x.ops def s t whole e) ∙ rest t n (all_whole x.ops s t e whole) h

own_later : (def : TableDef) (tables : List TableId) (xs : List Sealed) (s n : TableState) → IsWhole s → state_from (map (entry_on tables) (map entry_of xs)) s ≡ Some n → state_from (map (entry_on tables) (map entry_of xs)) (with_new def s) ≡ Some (with_new def n)
own_later def tables [] s n whole is = let same : s ≡ n = cc in ap (λ x. Some (with_new def x)) same
own_later def tables (x ∷ xs) s n whole is = by (applied_all (ops_on tables x.ops) s) refl is (own_later def tables xs)
  where
    rest_of : List Entry
    rest_of = map (entry_on tables) (map entry_of xs)

    by : (o : Option TableState) → applied_all (ops_on tables x.ops) s ≡ o → option_and_then (state_from (map (entry_on tables) (map entry_of xs))) o ≡ Some n
        → ((s n : TableState) → IsWhole s → state_from (map (entry_on tables) (map entry_of xs)) s ≡ Some n → state_from (map (entry_on tables) (map entry_of xs)) (with_new def s) ≡ Some (with_new def n))
        → option_and_then (state_from (map (entry_on tables) (map entry_of xs))) (applied_all (ops_on tables x.ops) (with_new def s)) ≡ Some (with_new def n)
    by None e h rest = cc
    by (Some t) e h rest = ap (option_and_then (state_from (map (entry_on tables) (map entry_of xs)))) (all_later (ops_on tables x.ops) def s t whole e) ∙ rest t n (all_whole (ops_on tables x.ops) s t e whole) h

order_with : (g : LiveGroup) (h : List Entry) (log : List Sealed) (def : TableDef) (o : TableState) → in_order g h log ≡ Some o → in_order g (h ++ Definition def ∷ []) log ≡ Some (with_new def o)
order_with g h log def o is =
    ap (λ l. state_of (map (entry_on g.tables) (l ++ map entry_of group))) (filter-append (is_other group) h (Definition def ∷ []))
    ∙ ap (λ l. state_of (map (entry_on g.tables) l)) (append_assoc front (Definition def ∷ []) (map entry_of group))
    ∙ ap state_of (map-append (entry_on g.tables) front (Definition def ∷ map entry_of group))
    ∙ state_of-append first (Definition def ∷ last)
    ∙ by (state_of first) refl (sym (state_of-append first last) ∙ sym (ap state_of (map-append (entry_on g.tables) front (map entry_of group))) ∙ is)
  where
    group : List Sealed
    group = of_group g log

    front : List Entry
    front = filter (is_other group) h

    first : List Entry
    first = map (entry_on g.tables) front

    last : List Entry
    last = map (entry_on g.tables) (map entry_of group)

    by : (a : Option TableState) → state_of first ≡ a → option_and_then (state_from last) a ≡ Some o → option_and_then (state_from (Definition def ∷ last)) a ≡ Some (with_new def o)
    by None e h = cc
    by (Some a) e h = own_later def g.tables group a o (history_whole first no_tables a e refl) h

groups_with : (groups : List LiveGroup) (h : List Entry) (log : List Sealed) (schema : List TableDef) (next : ℕ) (def : TableDef) → AreClosed groups (schema ++ def ∷ []) → GroupsAreOrdered groups h log schema next
    → GroupsAreOrdered groups (h ++ Definition def ∷ []) log (schema ++ def ∷ []) next
groups_with [] h log schema next def closed ordered = tt
groups_with (g ∷ groups) h log schema next def closed ordered = (
  record {
    closed = closed.0;
    first = ordered.0.first;
    none_below = none_below_more g h (Definition def ∷ []) log ordered.0.none_below;
    state = with_new def ordered.0.state;
    ordered = order_with g h log def ordered.0.state ordered.0.ordered;
  },
  groups_with groups h log schema next def closed.1 ordered.1,
)

pub table_defined : (groups : List LiveGroup) (h : List Entry) (log : List Sealed) (next : ℕ) (over : StandOver (progress_of groups h log next)) (def : TableDef) → AreClosed groups (over.backing.schema ++ def ∷ []) → AreOnDefined over.backing.schema log
    → (now : StandOver (progress_of groups (h ++ Definition def ∷ []) log next)) × (now.virtual ≡ with_new def over.virtual)
table_defined groups h log next over def closed known =
    let pends : applied_sealed (pending h log) over.backing ≡ Some over.virtual = sym (ap (option_and_then (applied_sealed (pending h log))) over.leaves) ∙ over.virtual_is in
    let leaves : state_of (h ++ Definition def ∷ []) ≡ Some (with_new def over.backing) =
    state_of-append h (Definition def ∷ []) ∙ ap (option_and_then (state_from (Definition def ∷ []))) over.leaves
    in (
      record {
        backing = with_new def over.backing;
        leaves = leaves;
        virtual = with_new def over.virtual;
        virtual_is =
            (λ i. option_and_then (applied_sealed (pending_stays (Definition def) (λ t. refl) h log i)) (leaves i))
            ∙ sealed_later def (pending h log) over.backing over.virtual (history_whole h no_tables over.backing over.leaves refl) pends;
        rise = over.rise;
        below = λ t le. ticket_stays (Definition def) (λ t. refl) h t ∙ over.below t le;
        legal = record {
          once = once_def h def over.legal.once;
          ops = ops_def log h def over.legal.ops;
          order = order_def (conflicting (over.backing.schema ++ def ∷ [])) log [] h def (order_later over.backing.schema (def ∷ []) log [] h known over.legal.ops over.legal.order);
        };
        ordered = groups_with groups h log over.backing.schema next def closed over.ordered;
      },
      refl,
    )

-- what applied is on defined tables
pub known_where_applied : (ops : List Op) (s n : TableState) → applied_all ops s ≡ Some n → are_on_defined s.schema ops ≡ true
known_where_applied [] s n is = refl
known_where_applied (op ∷ ops) s n is = by (applied op s) refl is (known_where_applied ops)
  where
    by : (o : Option TableState) → applied op s ≡ o → option_and_then (applied_all ops) o ≡ Some n → ((s n : TableState) → applied_all ops s ≡ Some n → are_on_defined s.schema ops ≡ true)
        → (is_some (slice_get s.schema (table_of op).0) && are_on_defined s.schema ops) ≡ true
    by None e h rest = cc
    by (Some t) e h rest = λ i. is_some ((parts op s t e).defined i) && (ap (λ l. are_on_defined l ops) (sym (stays_defined op s t e)) ∙ rest t n h) i
