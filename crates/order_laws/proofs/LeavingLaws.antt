-- A transaction that stands in the history leaves the log.
use Rattle.std.proofs.Common.{◌≡◌, ℕ, ◌+◌, ◌≤◌, Bool, true, false, cond, not, ◌&&◌, ◌||◌, nat_eq, Option, Some, None, is_some, List, [], ◌∷◌, ◌++◌, map, slice_get, refl, sym, ap, subst, ◌∙◌, arith, append_assoc, eq-eqb}
use Rattle.std.specs.List.{filter, flat_map}
use Rattle.std.specs.Option.{option_and_then}
use Rattle.std.proofs.lemmas.List.{map-append}
use Rattle.std.proofs.lemmas.List.Folds.{list_any-append}
use Rattle.std.proofs.lemmas.List.Elements.{filter-append}
use Rattle.table_state.specs.tier_base.specs.declared.number.TableId.{TableId}
use Rattle.table_state.specs.tier_base.specs.declared.number.Ticket.{Ticket}
use Rattle.table_state.specs.table_defs.specs.declared.definition.TableDef.{TableDef}
use Rattle.table_state.specs.declared.footprint.RowKey.{RowKey}
use Rattle.table_state.specs.declared.history.Entry.{Entry}
use Rattle.table_state.specs.declared.history.Entry.TheVariants.{Definition, Foreign, Own}
use Rattle.table_state.specs.declared.history.Sealed.{Sealed}
use Rattle.table_state.specs.declared.operation.Op.{Op}
use Rattle.table_state.specs.Footprints.{conflict, footprint_of, is_among, referred_by, same_row_key, written_by}
use Rattle.table_state.specs.Histories.{entry_of, has_ticket, no_tables, state_from, state_of}
use Rattle.table_state.specs.Tables.{TableState}
use Rattle.table_state.specs.Operations.{applied_all, table_of}
use Rattle.table_state.proofs.HistoryLaws.{has_ticket-append, state_from-append, state_of-append}
use Rattle.table_state.proofs.IndependenceLaws.{history_whole}
use Rattle.order_laws.specs.Commits.{AreOps, FollowsLower, HasOps, KeepsOrder, LiveGroup, NoneBelow, NoneConflicts, Once, RiseBetween, applied_sealed, conflicting, entry_on, in_order, is_of_group, is_op_on, is_other, is_pending, of_group, ops_on, pending}
use Rattle.order_laws.specs.Standing.{GroupIsOrdered, GroupsAreOrdered, HasGroup, StandOver, are_on_defined, progress_of}
use Rattle.order_laws.specs.Steps.{MayLeave, NoneBehind, ops_in}
use Rattle.order_laws.proofs.AtOnceLaws.{conflict_none}
use Rattle.order_laws.proofs.BackLaws.{NoneMeets, goes_before}
use Rattle.order_laws.proofs.CountLaws.{defs_of, schema_after}
use Rattle.order_laws.proofs.NextLaws.{HasNot, before_has_not, behind_has_not, nat_eq_other}
use Rattle.order_laws.proofs.OrderLaws.{defs-append, defs_on, defs_other, defs_sealed, ordered_schema}
use Rattle.order_laws.proofs.PairLaws.{IsPart, apart_of, part_apart, turned}
use Rattle.order_laws.proofs.RoundLaws.{once_before}
use Rattle.order_laws.proofs.StepLaws.{among_left, among_right, or_none}
use Rattle.order_laws.proofs.TableLaws.{known_where_applied}
use Rattle.order_laws.proofs.TruthLaws.{both_true, never_both, or_true}

-- a shorter log

rise_without : (low : ℕ) (xs : List Sealed) (j : Sealed) (ys : List Sealed) (high : ℕ) → RiseBetween low (xs ++ j ∷ ys) high → RiseBetween low (xs ++ ys) high
rise_without low [] j ys high rise = lower low (j.ticket.0 + 1) ys high (let first : low ≤ j.ticket.0 = rise.0 in omega arith) rise.1
  where
    lower : (low m : ℕ) (ss : List Sealed) (high : ℕ) → low ≤ m → RiseBetween m ss high → RiseBetween low ss high
    lower low m [] high le rise = let r : m ≤ high = rise in omega arith
    lower low m (s ∷ ss) high le rise = (let first : m ≤ s.ticket.0 = rise.0 in omega arith, rise.1)
rise_without low (x ∷ xs) j ys high rise = (rise.0, rise_without (x.ticket.0 + 1) xs j ys high rise.1)

ops_without : (xs : List Sealed) (j : Sealed) (ys : List Sealed) (ticket : Ticket) (ops : List Op) → AreOps (xs ++ j ∷ ys) ticket ops → AreOps (xs ++ ys) ticket ops
ops_without [] j ys ticket ops are = are.1
ops_without (x ∷ xs) j ys ticket ops are = (are.0, ops_without xs j ys ticket ops are.1)

has_ops_without : (xs : List Sealed) (j : Sealed) (ys : List Sealed) (h : List Entry) → HasOps (xs ++ j ∷ ys) h → HasOps (xs ++ ys) h
has_ops_without xs j ys [] has = tt
has_ops_without xs j ys (Definition def ∷ h) has = has_ops_without xs j ys h has
has_ops_without xs j ys (Foreign ops ∷ h) has = has_ops_without xs j ys h has
has_ops_without xs j ys (Own ticket ops ∷ h) has = (ops_without xs j ys ticket ops has.0, has_ops_without xs j ys h has.1)

follows_without : (conflict : Sealed → Sealed → Bool) (xs : List Sealed) (j : Sealed) (ys : List Sealed) (s : Sealed) (front : List Entry) → FollowsLower conflict (xs ++ j ∷ ys) s front → FollowsLower conflict (xs ++ ys) s front
follows_without conflict [] j ys s front follows = follows.1
follows_without conflict (x ∷ xs) j ys s front follows = (follows.0, follows_without conflict xs j ys s front follows.1)

stands_with : (t : ℕ) (xs : List Sealed) (j : Sealed) (ys : List Sealed) → has_ticket t (map entry_of (xs ++ ys)) ≡ true → has_ticket t (map entry_of (xs ++ j ∷ ys)) ≡ true
stands_with t [] j ys e = ap (λ b. nat_eq j.ticket.0 t || b) e ∙ or_true (nat_eq j.ticket.0 t)
stands_with t (x ∷ xs) j ys e = by (nat_eq x.ticket.0 t) refl e (stands_with t xs j ys)
  where
    by : (b : Bool) → nat_eq x.ticket.0 t ≡ b → (b || has_ticket t (map entry_of (xs ++ ys))) ≡ true → (has_ticket t (map entry_of (xs ++ ys)) ≡ true → has_ticket t (map entry_of (xs ++ j ∷ ys)) ≡ true)
        → (nat_eq x.ticket.0 t || has_ticket t (map entry_of (xs ++ j ∷ ys))) ≡ true
    by true f e rest = ap (λ b. b || has_ticket t (map entry_of (xs ++ j ∷ ys))) f
    by false f e rest = ap (λ b. nat_eq x.ticket.0 t || b) (rest e) ∙ or_true (nat_eq x.ticket.0 t)

order_without : (conflict : Sealed → Sealed → Bool) (xs : List Sealed) (j : Sealed) (ys : List Sealed) (front h : List Entry) → KeepsOrder conflict (xs ++ j ∷ ys) front h → KeepsOrder conflict (xs ++ ys) front h
order_without conflict xs j ys front [] keeps = tt
order_without conflict xs j ys front (Definition def ∷ h) keeps = order_without conflict xs j ys (front ++ Definition def ∷ []) h keeps
order_without conflict xs j ys front (Foreign ops ∷ h) keeps = order_without conflict xs j ys (front ++ Foreign ops ∷ []) h keeps
order_without conflict xs j ys front (Own ticket ops ∷ h) keeps = (
  λ stands. follows_without conflict xs j ys (record { ticket = ticket; ops = ops }) front (keeps.0 (stands_with ticket.0 xs j ys stands)),
  order_without conflict xs j ys (front ++ Own ticket ops ∷ []) h keeps.1,
)

below_without : (g : LiveGroup) (h : List Entry) (xs : List Sealed) (j : Sealed) (ys : List Sealed) → NoneBelow g h (xs ++ j ∷ ys) → NoneBelow g h (xs ++ ys)
below_without g h [] j ys none = none.1
below_without g h (x ∷ xs) j ys none = (none.0, below_without g h xs j ys none.1)

-- it stands in the history, and nowhere else

pub there : (h front tail : List Entry) (j : Sealed) → h ≡ front ++ entry_of j ∷ tail → has_ticket j.ticket.0 h ≡ true
there h front tail j stands =
    ap (has_ticket j.ticket.0) stands ∙ has_ticket-append j.ticket.0 front (entry_of j ∷ tail)
    ∙ ap (λ b. has_ticket j.ticket.0 front || (b || has_ticket j.ticket.0 tail)) (eq-eqb j.ticket.0 j.ticket.0 refl) ∙ or_true (has_ticket j.ticket.0 front)

once_behind : (front : List Entry) (j : Sealed) (tail : List Entry) → Once (front ++ entry_of j ∷ tail) → has_ticket j.ticket.0 tail ≡ false
once_behind [] j tail once = once.0
once_behind (Definition def ∷ front) j tail once = once_behind front j tail once
once_behind (Foreign ops ∷ front) j tail once = once_behind front j tail once
once_behind (Own ticket ops ∷ front) j tail once = once_behind front j tail once.1

pub pending_without : (h : List Entry) (xs : List Sealed) (j : Sealed) (ys : List Sealed) → has_ticket j.ticket.0 h ≡ true → pending h (xs ++ j ∷ ys) ≡ pending h (xs ++ ys)
pending_without h xs j ys stands =
    filter-append (is_pending h) xs (j ∷ ys) ∙ ap (λ b. pending h xs ++ cond (not b) (j ∷ pending h ys) (pending h ys)) stands ∙ sym (filter-append (is_pending h) xs ys)

-- which entries are others

ticket_without : (t : ℕ) (xs : List Sealed) (j : Sealed) (ys : List Sealed) → nat_eq j.ticket.0 t ≡ false → has_ticket t (map entry_of (xs ++ j ∷ ys)) ≡ has_ticket t (map entry_of (xs ++ ys))
ticket_without t [] j ys other = ap (λ b. b || has_ticket t (map entry_of ys)) other
ticket_without t (x ∷ xs) j ys other = ap (λ b. nat_eq x.ticket.0 t || b) (ticket_without t xs j ys other)

others_without : (xs : List Sealed) (j : Sealed) (ys : List Sealed) (h : List Entry) → has_ticket j.ticket.0 h ≡ false → filter (is_other (xs ++ j ∷ ys)) h ≡ filter (is_other (xs ++ ys)) h
others_without xs j ys [] fresh = refl
others_without xs j ys (Definition def ∷ h) fresh = ap (λ l. Definition def ∷ l) (others_without xs j ys h fresh)
others_without xs j ys (Foreign ops ∷ h) fresh = ap (λ l. Foreign ops ∷ l) (others_without xs j ys h fresh)
others_without xs j ys (Own ticket ops ∷ h) fresh =
    let (other, rest) = or_none (nat_eq ticket.0 j.ticket.0) (has_ticket j.ticket.0 h) fresh in
    let turn : nat_eq j.ticket.0 ticket.0 ≡ false = nat_eq_other j.ticket.0 ticket.0 (λ e. never_both (nat_eq ticket.0 j.ticket.0) (eq-eqb ticket.0 j.ticket.0 (sym e)) other) in
    λ i. cond (not (ticket_without ticket.0 xs j ys turn i)) (Own ticket ops ∷ others_without xs j ys h rest i) (others_without xs j ys h rest i)

-- operations on some tables alone are part of all

part_on : (tables : List TableId) (schema : List TableDef) (ops : List Op) → IsPart (footprint_of schema (ops_on tables ops)) (footprint_of schema ops)
part_on tables schema ops = record { written = kept (written_by schema) ops; referred = kept (referred_by schema) ops }
  where
    kept : (f : Op → List RowKey) (ops : List Op) (w : RowKey) → is_among (flat_map f (ops_on tables ops)) w ≡ true → is_among (flat_map f ops) w ≡ true
    kept f [] w e = e
    kept f (op ∷ ops) w e = by (is_op_on tables op) e (kept f ops w)
      where
        by : (b : Bool) → is_among (flat_map f (cond b (op ∷ ops_on tables ops) (ops_on tables ops))) w ≡ true → (is_among (flat_map f (ops_on tables ops)) w ≡ true → is_among (flat_map f ops) w ≡ true) → is_among (f op ++ flat_map f ops) w ≡ true
        by true e rest = first (is_among (f op) w) refl (sym (list_any-append (same_row_key w) (f op) (flat_map f (ops_on tables ops))) ∙ e)
          where
            first : (c : Bool) → is_among (f op) w ≡ c → (c || is_among (flat_map f (ops_on tables ops)) w) ≡ true → is_among (f op ++ flat_map f ops) w ≡ true
            first true g h = among_left (f op) (flat_map f ops) w g
            first false g h = among_right (f op) (flat_map f ops) w (rest h)
        by false e rest = among_right (f op) (flat_map f ops) w (rest e)

pub conflict_on : (tables : List TableId) (schema : List TableDef) (a b : List Op) → conflict (footprint_of schema a) (footprint_of schema b) ≡ false → conflict (footprint_of schema (ops_on tables a)) (footprint_of schema (ops_on tables b)) ≡ false
conflict_on tables schema a b none =
    let first = part_apart (footprint_of schema a) (footprint_of schema (ops_on tables a)) (footprint_of schema b) (part_on tables schema a) (apart_of (footprint_of schema a) (footprint_of schema b) none) in
    let turn = turned (footprint_of schema (ops_on tables a)) (footprint_of schema b) first in
    let second = part_apart (footprint_of schema b) (footprint_of schema (ops_on tables b)) (footprint_of schema (ops_on tables a)) (part_on tables schema b) turn in
    conflict_none (footprint_of schema (ops_on tables a)) (footprint_of schema (ops_on tables b)) (turned (footprint_of schema (ops_on tables b)) (footprint_of schema (ops_on tables a)) second)

known_kept : (tables : List TableId) (schema : List TableDef) (ops : List Op) → are_on_defined schema ops ≡ true → are_on_defined schema (ops_on tables ops) ≡ true
known_kept tables schema [] known = refl
known_kept tables schema (op ∷ ops) known =
    let (first, rest) = both_true (is_some (slice_get schema (table_of op).0)) (are_on_defined schema ops) known in
    let more = known_kept tables schema ops rest in
    elim (is_op_on tables op) as (λ b. are_on_defined schema (cond b (op ∷ ops_on tables ops) (ops_on tables ops)) ≡ true) [
      | true ↦ (λ i. first i && more i)
      | false ↦ more
    ]

-- what it goes past

meets_append : (schema : List TableDef) (xs ys : List Entry) (ops : List Op) → NoneMeets schema xs ops → NoneMeets schema ys ops → NoneMeets schema (xs ++ ys) ops
meets_append schema [] ys ops a b = b
meets_append schema (x ∷ xs) ys ops a b = (a.0, meets_append schema xs ys ops a.1 b)

on_ops : (tables : List TableId) (e : Entry) → ops_in (entry_on tables e) ≡ ops_on tables (ops_in e)
on_ops tables (Definition def) = refl
on_ops tables (Foreign ops) = refl
on_ops tables (Own ticket ops) = refl

meets_others : (g : LiveGroup) (schema : List TableDef) (log : List Sealed) (j : Sealed) (tail : List Entry) → NoneBehind g schema log j tail → NoneMeets schema (map (entry_on g.tables) (filter (is_other (of_group g log)) tail)) (ops_on g.tables j.ops)
meets_others g schema log j [] none = tt
meets_others g schema log j (e ∷ tail) none = by (is_other (of_group g log) e) refl (meets_others g schema log j tail none.1)
  where
    by : (b : Bool) → is_other (of_group g log) e ≡ b → NoneMeets schema (map (entry_on g.tables) (filter (is_other (of_group g log)) tail)) (ops_on g.tables j.ops)
        → NoneMeets schema (map (entry_on g.tables) (cond b (e ∷ filter (is_other (of_group g log)) tail) (filter (is_other (of_group g log)) tail))) (ops_on g.tables j.ops)
    by true is rest = (ap (λ l. conflict (footprint_of schema l) (footprint_of schema (ops_on g.tables j.ops))) (on_ops g.tables e) ∙ none.0 is, rest)
    by false is rest = rest

meets_lower : (g : LiveGroup) (schema : List TableDef) (xs : List Sealed) (j : Sealed) → NoneConflicts schema xs j → NoneMeets schema (map (entry_on g.tables) (map entry_of (of_group g xs))) (ops_on g.tables j.ops)
meets_lower g schema [] j none = tt
meets_lower g schema (x ∷ xs) j none =
    let rest = meets_lower g schema xs j none.1 in
    elim (is_of_group g x) as (λ b. NoneMeets schema (map (entry_on g.tables) (map entry_of (cond b (x ∷ of_group g xs) (of_group g xs)))) (ops_on g.tables j.ops)) [
      | true ↦ (conflict_on g.tables schema x.ops j.ops none.0, rest)
      | false ↦ rest
    ]

some_before : {X Y : Type 0} (f : X → Option Y) (o : Option X) (y : Y) → option_and_then f o ≡ Some y → (x : X) × (o ≡ Some x) × (f x ≡ Some y)
some_before f None y e = cc
some_before f (Some x) y e = (x, refl, e)

-- operations that stand behind entries go before them
moved : (first between last : List Entry) (ticket : Ticket) (ops : List Op) (whole : List TableDef) (o : TableState) → o.schema ≡ whole → defs_of last ≡ [] → ((a : TableState) → state_of first ≡ Some a → are_on_defined a.schema ops ≡ true) → NoneMeets whole between ops
    → state_of (first ++ (between ++ Own ticket ops ∷ last)) ≡ Some o → state_of (first ++ Own ticket ops ∷ (between ++ last)) ≡ Some o
moved first between last ticket ops whole o schema plain known none is =
    let (a, a_is, rest) = some_before (state_from (between ++ Own ticket ops ∷ last)) (state_of first) o (sym (state_of-append first (between ++ Own ticket ops ∷ last)) ∙ is) in
    let (x, x_is, more) = some_before (state_from (Own ticket ops ∷ last)) (state_from between a) o (sym (state_from-append between (Own ticket ops ∷ last) a) ∙ rest) in
    let (z, z_is, end) = some_before (state_from last) (applied_all ops x) o more in
    let schemas : whole ≡ a.schema ++ (defs_of between ++ []) =
    sym schema ∙ schema_after (between ++ Own ticket ops ∷ last) a o rest ∙ ap (λ l. a.schema ++ l) (defs-append between (Own ticket ops ∷ last) ∙ ap (λ l. defs_of between ++ l) plain)
    in
    let (y, y_is, behind) = goes_before between ops whole [] a x z schemas (history_whole first no_tables a a_is refl) (known a a_is) none x_is z_is in
    state_of-append first (Own ticket ops ∷ (between ++ last))
    ∙ ap (option_and_then (state_from (Own ticket ops ∷ (between ++ last)))) a_is
    ∙ ap (option_and_then (state_from (between ++ last))) y_is
    ∙ state_from-append between last y
    ∙ ap (option_and_then (state_from last)) behind
    ∙ end

-- a group of which it is

not_kept : (p : Sealed → Bool) (t : ℕ) (ss : List Sealed) → HasNot t ss → has_ticket t (map entry_of (filter p ss)) ≡ false
not_kept p t [] none = refl
not_kept p t (s ∷ ss) none =
    let rest = not_kept p t ss none.1 in
    let first : nat_eq s.ticket.0 t ≡ false = nat_eq_other s.ticket.0 t (λ e. none.0 (sym e)) in
    elim (p s) as (λ b. has_ticket t (map entry_of (cond b (s ∷ filter p ss) (filter p ss))) ≡ false) [
      | true ↦ (λ i. first i || rest i)
      | false ↦ rest
    ]

-- the tickets of two lists
joined : (t : ℕ) (xs ys : List Sealed) → has_ticket t (map entry_of (xs ++ ys)) ≡ (has_ticket t (map entry_of xs) || has_ticket t (map entry_of ys))
joined t xs ys = ap (has_ticket t) (map-append entry_of xs ys) ∙ has_ticket-append t (map entry_of xs) (map entry_of ys)

module _ (g : LiveGroup) (h front tail : List Entry) (xs : List Sealed) (j : Sealed) (ys : List Sealed) (stands : h ≡ front ++ entry_of j ∷ tail) (mine : is_of_group g j ≡ true) (once : Once h) (high : ℕ) (rise : RiseBetween 1 (xs ++ j ∷ ys) high) where
  abbrev lower_ones : List Sealed
  lower_ones = of_group g xs

  abbrev higher_ones : List Sealed
  higher_ones = of_group g ys

  abbrev first_part : List Entry
  first_part = map (entry_on g.tables) (filter (is_other (of_group g (xs ++ j ∷ ys))) front)

  abbrev tail_part : List Entry
  tail_part = map (entry_on g.tables) (filter (is_other (of_group g (xs ++ j ∷ ys))) tail)

  abbrev lower_part : List Entry
  lower_part = map (entry_on g.tables) (map entry_of lower_ones)

  abbrev higher_part : List Entry
  higher_part = map (entry_on g.tables) (map entry_of higher_ones)

  group_with : of_group g (xs ++ j ∷ ys) ≡ lower_ones ++ j ∷ higher_ones
  group_with = filter-append (is_of_group g) xs (j ∷ ys) ∙ ap (λ b. lower_ones ++ cond b (j ∷ higher_ones) higher_ones) mine

  group_without : of_group g (xs ++ ys) ≡ lower_ones ++ higher_ones
  group_without = filter-append (is_of_group g) xs ys

  once_whole : Once (front ++ entry_of j ∷ tail)
  once_whole = subst (λ (l : List Entry). Once l) stands once

  on_log : has_ticket j.ticket.0 (map entry_of (of_group g (xs ++ j ∷ ys))) ≡ true
  on_log =
      ap (λ l. has_ticket j.ticket.0 (map entry_of l)) group_with ∙ joined j.ticket.0 lower_ones (j ∷ higher_ones)
      ∙ ap (λ b. has_ticket j.ticket.0 (map entry_of lower_ones) || (b || has_ticket j.ticket.0 (map entry_of higher_ones))) (eq-eqb j.ticket.0 j.ticket.0 refl)
      ∙ or_true (has_ticket j.ticket.0 (map entry_of lower_ones))

  off_log : has_ticket j.ticket.0 (map entry_of (of_group g (xs ++ ys))) ≡ false
  off_log =
      ap (λ l. has_ticket j.ticket.0 (map entry_of l)) group_without ∙ joined j.ticket.0 lower_ones higher_ones
      ∙ (λ i. not_kept (is_of_group g) j.ticket.0 xs (before_has_not 1 xs j ys high rise) i || not_kept (is_of_group g) j.ticket.0 ys (behind_has_not 1 xs j ys high rise) i)

  -- the others stay the others, but for it
  stay : (es : List Entry) → has_ticket j.ticket.0 es ≡ false → filter (is_other (of_group g (xs ++ j ∷ ys))) es ≡ filter (is_other (of_group g (xs ++ ys))) es
  stay es fresh = ap (λ l. filter (is_other l) es) group_with ∙ others_without lower_ones j higher_ones es fresh ∙ ap (λ l. filter (is_other l) es) (sym group_without)

  others_then : filter (is_other (of_group g (xs ++ j ∷ ys))) h ≡ filter (is_other (of_group g (xs ++ j ∷ ys))) front ++ filter (is_other (of_group g (xs ++ j ∷ ys))) tail
  others_then =
      ap (filter (is_other (of_group g (xs ++ j ∷ ys)))) stands ∙ filter-append (is_other (of_group g (xs ++ j ∷ ys))) front (entry_of j ∷ tail)
      ∙ ap (λ b. filter (is_other (of_group g (xs ++ j ∷ ys))) front ++ cond (not b) (entry_of j ∷ filter (is_other (of_group g (xs ++ j ∷ ys))) tail) (filter (is_other (of_group g (xs ++ j ∷ ys))) tail)) on_log

  others_now : filter (is_other (of_group g (xs ++ ys))) h ≡ filter (is_other (of_group g (xs ++ j ∷ ys))) front ++ entry_of j ∷ filter (is_other (of_group g (xs ++ j ∷ ys))) tail
  others_now =
      ap (filter (is_other (of_group g (xs ++ ys)))) stands ∙ filter-append (is_other (of_group g (xs ++ ys))) front (entry_of j ∷ tail)
      ∙ ap (λ b. filter (is_other (of_group g (xs ++ ys))) front ++ cond (not b) (entry_of j ∷ filter (is_other (of_group g (xs ++ ys))) tail) (filter (is_other (of_group g (xs ++ ys))) tail)) off_log
      ∙ sym (λ i. stay front (once_before front j.ticket j.ops tail once_whole) i ++ entry_of j ∷ stay tail (once_behind front j tail once_whole) i)

  order_then : in_order g h (xs ++ j ∷ ys) ≡ state_of (first_part ++ ((tail_part ++ lower_part) ++ Own j.ticket (ops_on g.tables j.ops) ∷ higher_part))
  order_then =
      let f = filter (is_other (of_group g (xs ++ j ∷ ys))) front in
      let t = filter (is_other (of_group g (xs ++ j ∷ ys))) tail in
      (λ i. state_of (map (entry_on g.tables) (others_then i ++ map entry_of (group_with i))))
      ∙ ap (λ l. state_of (map (entry_on g.tables) ((f ++ t) ++ l))) (map-append entry_of lower_ones (j ∷ higher_ones))
      ∙ ap state_of (map-append (entry_on g.tables) (f ++ t) (map entry_of lower_ones ++ entry_of j ∷ map entry_of higher_ones))
      ∙ (λ i. state_of (map-append (entry_on g.tables) f t i ++ map-append (entry_on g.tables) (map entry_of lower_ones) (entry_of j ∷ map entry_of higher_ones) i))
      ∙ ap state_of (append_assoc first_part tail_part (lower_part ++ Own j.ticket (ops_on g.tables j.ops) ∷ higher_part))
      ∙ ap (λ l. state_of (first_part ++ l)) (sym (append_assoc tail_part lower_part (Own j.ticket (ops_on g.tables j.ops) ∷ higher_part)))

  order_now : in_order g h (xs ++ ys) ≡ state_of (first_part ++ Own j.ticket (ops_on g.tables j.ops) ∷ ((tail_part ++ lower_part) ++ higher_part))
  order_now =
      let f = filter (is_other (of_group g (xs ++ j ∷ ys))) front in
      let t = filter (is_other (of_group g (xs ++ j ∷ ys))) tail in
      (λ i. state_of (map (entry_on g.tables) (others_now i ++ map entry_of (group_without i))))
      ∙ ap (λ l. state_of (map (entry_on g.tables) ((f ++ entry_of j ∷ t) ++ l))) (map-append entry_of lower_ones higher_ones)
      ∙ ap state_of (map-append (entry_on g.tables) (f ++ entry_of j ∷ t) (map entry_of lower_ones ++ map entry_of higher_ones))
      ∙ (λ i. state_of (map-append (entry_on g.tables) f (entry_of j ∷ t) i ++ map-append (entry_on g.tables) (map entry_of lower_ones) (map entry_of higher_ones) i))
      ∙ ap state_of (append_assoc first_part (Own j.ticket (ops_on g.tables j.ops) ∷ tail_part) (lower_part ++ higher_part))
      ∙ ap (λ l. state_of (first_part ++ Own j.ticket (ops_on g.tables j.ops) ∷ l)) (sym (append_assoc tail_part lower_part higher_part))

  higher_plain : defs_of higher_part ≡ []
  higher_plain = defs_on g.tables (map entry_of higher_ones) ∙ defs_sealed higher_ones

  -- it was on tables that were there
  known_there : (n a : TableState) → state_of h ≡ Some n → state_of first_part ≡ Some a → are_on_defined a.schema (ops_on g.tables j.ops) ≡ true
  known_there n a n_is a_is =
      let (p, p_is, rest) = some_before (state_from (entry_of j ∷ tail)) (state_of front) n (sym (state_of-append front (entry_of j ∷ tail)) ∙ sym (ap state_of stands) ∙ n_is) in
      let (q, q_is, more) = some_before (state_from tail) (applied_all j.ops p) n rest in
      let schemas : a.schema ≡ p.schema =
      schema_after first_part no_tables a a_is ∙ defs_on g.tables (filter (is_other (of_group g (xs ++ j ∷ ys))) front) ∙ defs_other (of_group g (xs ++ j ∷ ys)) front ∙ sym (schema_after front no_tables p p_is)
      in
      ap (λ l. are_on_defined l (ops_on g.tables j.ops)) schemas ∙ known_kept g.tables p.schema j.ops (known_where_applied j.ops p q q_is)

group_leaves : (groups : List LiveGroup) (h : List Entry) (xs : List Sealed) (j : Sealed) (ys : List Sealed) (next : ℕ) (over : StandOver (progress_of groups h (xs ++ j ∷ ys) next)) → MayLeave groups over.backing.schema h xs j ys → (g : LiveGroup) → HasGroup groups g
    → GroupIsOrdered g h (xs ++ j ∷ ys) over.backing.schema next → GroupIsOrdered g h (xs ++ ys) over.backing.schema next
group_leaves groups h xs j ys next over may g among ordered = record {
  closed = ordered.closed;
  first = ordered.first;
  none_below = below_without g h xs j ys ordered.none_below;
  state = ordered.state;
  ordered = by (is_of_group g j) refl;
}
  where
    by : (b : Bool) → is_of_group g j ≡ b → in_order g h (xs ++ ys) ≡ Some ordered.state
    by true mine =
        let f = first_part g h may.front may.tail xs j ys may.stands mine over.legal.once next over.rise in
        let t = tail_part g h may.front may.tail xs j ys may.stands mine over.legal.once next over.rise in
        let l = lower_part g h may.front may.tail xs j ys may.stands mine over.legal.once next over.rise in
        let u = higher_part g h may.front may.tail xs j ys may.stands mine over.legal.once next over.rise in
        order_now g h may.front may.tail xs j ys may.stands mine over.legal.once next over.rise
        ∙ moved f (t ++ l) u j.ticket (ops_on g.tables j.ops) over.backing.schema ordered.state
        (ordered_schema g h (xs ++ j ∷ ys) ordered.state ordered.ordered ∙ sym (schema_after h no_tables over.backing over.leaves))
        (higher_plain g h may.front may.tail xs j ys may.stands mine over.legal.once next over.rise)
        (λ a a_is. known_there g h may.front may.tail xs j ys may.stands mine over.legal.once next over.rise over.backing a over.leaves a_is)
        (meets_append over.backing.schema t l (ops_on g.tables j.ops) (meets_others g over.backing.schema (xs ++ j ∷ ys) j may.tail (may.behind g among)) (meets_lower g over.backing.schema xs j may.above))
        (sym (order_then g h may.front may.tail xs j ys may.stands mine over.legal.once next over.rise) ∙ ordered.ordered)
    by false other =
        let same : of_group g (xs ++ ys) ≡ of_group g (xs ++ j ∷ ys) =
        filter-append (is_of_group g) xs ys ∙ sym (filter-append (is_of_group g) xs (j ∷ ys) ∙ ap (λ b. of_group g xs ++ cond b (j ∷ of_group g ys) (of_group g ys)) other)
        in
        ap (λ l. state_of (map (entry_on g.tables) (filter (is_other l) h ++ map entry_of l))) same ∙ ordered.ordered

groups_leave : (groups : List LiveGroup) (h : List Entry) (xs : List Sealed) (j : Sealed) (ys : List Sealed) (next : ℕ) (over : StandOver (progress_of groups h (xs ++ j ∷ ys) next)) → MayLeave groups over.backing.schema h xs j ys
    → (before behind : List LiveGroup) → groups ≡ before ++ behind → GroupsAreOrdered behind h (xs ++ j ∷ ys) over.backing.schema next → GroupsAreOrdered behind h (xs ++ ys) over.backing.schema next
groups_leave groups h xs j ys next over may before [] is ordered = tt
groups_leave groups h xs j ys next over may before (g ∷ behind) is ordered = (
  group_leaves groups h xs j ys next over may g (record { before = before; behind = behind; is = is }) ordered.0,
  groups_leave groups h xs j ys next over may (before ++ g ∷ []) behind (is ∙ sym (append_assoc before (g ∷ []) behind)) ordered.1,
)

pub leaves : (groups : List LiveGroup) (h : List Entry) (xs : List Sealed) (j : Sealed) (ys : List Sealed) (next : ℕ) (over : StandOver (progress_of groups h (xs ++ j ∷ ys) next)) → MayLeave groups over.backing.schema h xs j ys
    → (now : StandOver (progress_of groups h (xs ++ ys) next)) × (now.virtual ≡ over.virtual)
leaves groups h xs j ys next over may =
    let stands = there h may.front may.tail j may.stands in (
      record {
        backing = over.backing;
        leaves = over.leaves;
        virtual = over.virtual;
        virtual_is = ap (λ l. option_and_then (applied_sealed l) (state_of h)) (sym (pending_without h xs j ys stands)) ∙ over.virtual_is;
        rise = rise_without 1 xs j ys next over.rise;
        below = over.below;
        legal = record {
          once = over.legal.once;
          ops = has_ops_without xs j ys h over.legal.ops;
          order = order_without (conflicting over.backing.schema) xs j ys [] h over.legal.order;
        };
        ordered = groups_leave groups h xs j ys next over may [] groups refl over.ordered;
      },
      refl,
    )
