-- The transactions of a round come as events of it.
use Rattle.std.proofs.Common.{◌≡◌, ℕ, zero, suc, ◌+◌, ◌<◌, ◌≤◌, Bool, true, false, cond, not, ◌&&◌, is_some, List, [], ◌∷◌, ◌++◌, map, filter, slice_get, refl, sym, ap, subst, ◌∙◌, arith, append_assoc, append-nil}
use Rattle.std.specs.List.{Contains, list_all}
use Rattle.std.proofs.lemmas.List.Elements.{filter-append}
use Rattle.tier_base.specs.declared.number.TableId.{TableId}
use Rattle.tier_base.specs.declared.number.Ticket.{Ticket}
use Rattle.table_defs.specs.declared.definition.TableDef.{TableDef}
use Rattle.table_state.specs.Copies.{is_one_of}
use Rattle.table_state.specs.declared.history.Entry.{Entry}
use Rattle.table_state.specs.declared.history.Entry.TheVariants.{Definition, Foreign, Own}
use Rattle.table_state.specs.declared.history.Sealed.{Sealed}
use Rattle.table_state.specs.declared.operation.Op.{Op}
use Rattle.table_state.specs.Footprints.{conflict}
use Rattle.table_state.specs.Histories.{entry_of, has_ticket, state_of}
use Rattle.table_state.specs.Operations.{table_of}
use Rattle.order_laws.specs.Commits.{FollowsLower, IsInLog, KeepsOrder, NoneConflicts, Once, RiseBetween, conflicting, is_op_on, is_pending, pending}
use Rattle.order_laws.specs.Events.{Came, Event, Follows, IsNext, Left, Others}
use Rattle.order_laws.specs.Pipelines.{FlowsWithLive, with_history}
use Rattle.order_laws.specs.Sides.{all_on, are_on}
use Rattle.order_laws.specs.Standing.{AreOnDefined, are_on_defined, live_tables}
use Rattle.order_laws.proofs.FlowLaws.{flow_round}
use Rattle.order_laws.proofs.NextLaws.{least}
use Rattle.order_laws.proofs.RoundLaws.{in_log, once_before}
use Rattle.order_laws.proofs.TableLaws.{footprint_later}
use Rattle.order_laws.proofs.TruthLaws.{both_true}
use Rattle.recovery_laws.proofs.FoldLaws.{rise_lower}
use Rattle.cache_tier.specs.Rounds.{Comes, Mixes}
use Rattle.cache_tier.specs.StandingBetween.{Each, Stands, live_groups_of, progress_in}
use Rattle.cache_tier.specs.Worlds.{IsUnshared, World}
use Rattle.cache_tier.proofs.GroupTables.{live_table}
use Rattle.recovery.proofs.OthersLaws.{off_shared, some_state}
use Rattle.recovery.proofs.TablesLaws.{written_defined}

-- ---- lists

pub in_list : (us : List Sealed) (s : Sealed) → Contains us s → IsInLog us s
in_list [] s (k, lt, e) = absurd (omega (arith, lt))
in_list (u ∷ us) s (zero, lt, e) = record { before = []; behind = us; is = ap (λ x. x ∷ us) e }
in_list (u ∷ us) s (suc k, lt, e) = let r = in_list us s (k, omega (arith, lt), e) in record { before = u ∷ r.before; behind = r.behind; is = ap (λ l. u ∷ l) r.is }

in_filter : (p : Sealed → Bool) (us : List Sealed) (s : Sealed) → IsInLog (filter p us) s → IsInLog us s
in_filter p [] s one = absurd (empty one.before one.is)
  where
    empty : (before : List Sealed) → [] ≡ before ++ s ∷ one.behind → ⊥
    empty [] e = Prim.cc
    empty (x ∷ before) e = Prim.cc
in_filter p (u ∷ us) s one = by (p u) one (in_filter p us s)
  where
    tail_of : (before : List Sealed) → u ∷ filter p us ≡ before ++ s ∷ one.behind → (IsInLog (filter p us) s → IsInLog us s) → IsInLog (u ∷ us) s
    tail_of [] e rest = let same : u ≡ s = Prim.cc in record { before = []; behind = us; is = ap (λ x. x ∷ us) same }
    tail_of (x ∷ before) e rest =
        let more : filter p us ≡ before ++ s ∷ one.behind = Prim.cc in
        let r = rest (record { before = before; behind = one.behind; is = more }) in
        record { before = u ∷ r.before; behind = r.behind; is = ap (λ l. u ∷ l) r.is }

    by : (b : Bool) → IsInLog (cond b (u ∷ filter p us) (filter p us)) s → (IsInLog (filter p us) s → IsInLog us s) → IsInLog (u ∷ us) s
    by true one rest = whole one.before one.behind one.is rest
      where
        whole : (before behind : List Sealed) → u ∷ filter p us ≡ before ++ s ∷ behind → (IsInLog (filter p us) s → IsInLog us s) → IsInLog (u ∷ us) s
        whole [] behind e rest = let same : u ≡ s = Prim.cc in record { before = []; behind = us; is = ap (λ x. x ∷ us) same }
        whole (x ∷ before) behind e rest =
            let more : filter p us ≡ before ++ s ∷ behind = Prim.cc in
            let r = rest (record { before = before; behind = behind; is = more }) in
            record { before = u ∷ r.before; behind = r.behind; is = ap (λ l. u ∷ l) r.is }
    by false one rest = let r = rest one in record { before = u ∷ r.before; behind = r.behind; is = ap (λ l. u ∷ l) r.is }

all_in : (own us : List Sealed) → ((s : Sealed) → Contains own s → IsInLog us s) → Each (IsInLog us) own
all_in [] us so = tt
all_in (s ∷ own) us so = (so s (0, omega arith, refl), all_in own us (λ x c. so x (suc c.0, (let lt = c.1 in omega (arith, lt)), c.2)))

rise_filter : (p : Sealed → Bool) (low : ℕ) (log : List Sealed) (high : ℕ) → RiseBetween low log high → RiseBetween low (filter p log) high
rise_filter p low [] high rise = rise
rise_filter p low (s ∷ log) high rise = by (p s) (rise_filter p (s.ticket.0 + 1) log high rise.1)
  where
    by : (b : Bool) → RiseBetween (s.ticket.0 + 1) (filter p log) high → RiseBetween low (cond b (s ∷ filter p log) (filter p log)) high
    by true rest = (rise.0, rest)
    by false rest = rise_lower low (s.ticket.0 + 1) (filter p log) high (let first : low ≤ s.ticket.0 = rise.0 in omega (arith, first)) rest

-- ---- events one after the other

follows_append : (schema : List TableDef) (live : List TableId) (events more : List Event) (h : List Entry) (us : List Sealed) (later : List Entry) (left : List Sealed) (last : List Entry) (end : List Sealed)
    → Follows schema live events h us later left → Follows schema live more later left last end → Follows schema live (events ++ more) h us last end
follows_append schema live [] more h us later left last end f g = subst (λ l. Follows schema live more l us last end) f.0 (subst (λ l. Follows schema live more later l last end) f.1 g)
follows_append schema live (Others ops ∷ events) more h us later left last end f g = (f.0, follows_append schema live events more (h ++ Foreign ops ∷ []) us later left last end f.1 g)
follows_append schema live (Came s ∷ events) more h us later left last end f g = (f.0, follows_append schema live events more (h ++ entry_of s ∷ []) us later left last end f.1 g)
follows_append schema live (Left s ∷ events) more h us later left last end f g = (f.0, follows_append schema live events more h (f.0.before ++ f.0.behind) later left last end f.1 g)

-- ---- what is pending

defined_ops : (live : List TableId) (schema : List TableDef) (ops : List Op) → ((u : TableId) → is_one_of live u ≡ true → is_some (slice_get schema u.0) ≡ true) → are_on live ops ≡ true → are_on_defined schema ops ≡ true
defined_ops live schema [] so e = refl
defined_ops live schema (op ∷ ops) so e = let (first, rest) = both_true (is_op_on live op) (are_on live ops) e in λ i. so (table_of op) first i && defined_ops live schema ops so rest i

defined_all : (live : List TableId) (schema : List TableDef) (xs : List Sealed) → ((u : TableId) → is_one_of live u ≡ true → is_some (slice_get schema u.0) ≡ true) → all_on live xs ≡ true → AreOnDefined schema xs
defined_all live schema [] so e = refl
defined_all live schema (x ∷ xs) so e = let (first, rest) = both_true (are_on live x.ops) (all_on live xs) e in λ i. defined_ops live schema x.ops so first i && defined_all live schema xs so rest i

-- a lower pending one has no conflict where each lower one that has one stands in the history
none_lower : (schema more : List TableDef) (h : List Entry) (a : List Sealed) (s : Sealed) (rest : List Sealed) (low high : ℕ) → FollowsLower (conflicting schema) a s h → RiseBetween low (pending h a ++ s ∷ rest) high → AreOnDefined schema (pending h a) → are_on_defined schema s.ops ≡ true
    → NoneConflicts (schema ++ more) (pending h a) s
none_lower schema more h [] s rest low high follows rise known mine = tt
none_lower schema more h (x ∷ a) s rest low high follows rise known mine = by (has_ticket x.ticket.0 h) refl rise known
    (λ lower defined. none_lower schema more h a s rest lower high follows.1 (defined.0) defined.1 mine)
  where
    by : (b : Bool) → has_ticket x.ticket.0 h ≡ b → RiseBetween low (cond (not b) (x ∷ pending h a) (pending h a) ++ s ∷ rest) high → AreOnDefined schema (cond (not b) (x ∷ pending h a) (pending h a))
        → ((lower : ℕ) → RiseBetween lower (pending h a ++ s ∷ rest) high × AreOnDefined schema (pending h a) → NoneConflicts (schema ++ more) (pending h a) s)
        → NoneConflicts (schema ++ more) (cond (not b) (x ∷ pending h a) (pending h a)) s
    by true e rise known so = so low (rise, known)
    by false e rise known so = (free (conflicting schema x s) refl, so (x.ticket.0 + 1) (rise.1, both.1))
      where
        both : (are_on_defined schema x.ops ≡ true) × AreOnDefined schema (pending h a)
        both = both_true (are_on_defined schema x.ops) (list_all (λ (y : Sealed). are_on_defined schema y.ops) (pending h a)) known

        below : x.ticket.0 < s.ticket.0
        below = let l = least (x.ticket.0 + 1) (pending h a) s rest high rise.1 in omega (arith, l)

        same : conflicting (schema ++ more) x s ≡ conflicting schema x s
        same = λ i. conflict (footprint_later schema more x.ops both.0 i) (footprint_later schema more s.ops mine i)

        free : (c : Bool) → conflicting schema x s ≡ c → conflicting (schema ++ more) x s ≡ false
        free true f = let bad : false ≡ true = sym e ∙ follows.0 below f in Prim.cc
        free false f = same ∙ f

follows_front : (c : Sealed → Sealed → Bool) (a b : List Sealed) (s : Sealed) (h : List Entry) → FollowsLower c (a ++ b) s h → FollowsLower c a s h
follows_front c [] b s h f = tt
follows_front c (x ∷ a) b s h f = (f.0, follows_front c a b s h f.1)

all_defined_parts : (schema : List TableDef) (a : List Sealed) (s : Sealed) (b : List Sealed) → AreOnDefined schema (a ++ s ∷ b) → AreOnDefined schema a × (are_on_defined schema s.ops ≡ true)
all_defined_parts schema [] s b known = (refl, (both_true (are_on_defined schema s.ops) (list_all (λ (y : Sealed). are_on_defined schema y.ops) b) known).0)
all_defined_parts schema (x ∷ a) s b known =
    let (first, rest) = both_true (are_on_defined schema x.ops) (list_all (λ (y : Sealed). are_on_defined schema y.ops) (a ++ s ∷ b)) known in
    let r = all_defined_parts schema a s b rest in
    (λ i. first i && r.0 i, r.1)

pending_split : (h : List Entry) (a : List Sealed) (s : Sealed) (b : List Sealed) → has_ticket s.ticket.0 h ≡ false → pending h (a ++ s ∷ b) ≡ pending h a ++ s ∷ pending h b
pending_split h a s b fresh = filter-append (is_pending h) a (s ∷ b) ∙ ap (λ c. pending h a ++ cond (not c) (s ∷ pending h b) (pending h b)) fresh

-- ---- the round

same_sealed : (t : Ticket) (ops : List Op) (s : Sealed) → Own t ops ≡ entry_of s → record { ticket = t; ops = ops } ≡ s
same_sealed t ops s e =
    let one : t ≡ s.ticket = Prim.cc in
    let other : ops ≡ s.ops = Prim.cc in
    λ i. record { ticket = one i; ops = other i }

module _ (w : World) (x : Stands w) (apart : IsUnshared w) where
  abbrev schema : List TableDef
  schema = x.flow.stand.over.backing.schema

  abbrev live : List TableId
  live = live_tables (live_groups_of w.tier.groups)

  abbrev us : List Sealed
  us = w.tier.unsettled

  abbrev Far : List Entry → Type 0
  Far h = (events : List Event) × Follows x.flow.stand.over.backing.schema (live_tables (live_groups_of w.tier.groups)) events w.history w.tier.unsettled h w.tier.unsettled

  flow : (h : List Entry) → Far h → FlowsWithLive (with_history (progress_in w) h) w.tier.unsettled x.flow.stand.over.virtual
  flow h far = flow_round (progress_in w) w.tier.unsettled w.tier.unsettled x.flow far.0 h far.1

  defined_live : (u : TableId) → is_one_of (live_tables (live_groups_of w.tier.groups)) u ≡ true → is_some (slice_get w.tier.schema u.0) ≡ true
  defined_live u e = written_defined w.tier.schema w.tier.groups u x.catalog.each (sym (live_table w.tier.groups u) ∙ e)

  front : (more : List TableDef) × (x.flow.stand.over.backing.schema ≡ w.tier.schema ++ more)
  front = x.schema.front x.flow.stand.over.backing x.flow.stand.over.leaves

  is_next : (h : List Entry) (s : Sealed) → Far h → IsInLog w.tier.unsettled s → has_ticket s.ticket.0 h ≡ false → (has_ticket s.ticket.0 (map entry_of w.tier.unsettled) ≡ true → FollowsLower (conflicting w.tier.schema) w.tier.unsettled s h)
      → IsNext x.flow.stand.over.backing.schema h w.tier.unsettled s
  is_next h s far one fresh follows =
      let f = flow h far in
      let split : pending h w.tier.unsettled ≡ pending h one.before ++ s ∷ pending h one.behind = ap (pending h) one.is ∙ pending_split h one.before s one.behind fresh in
      let rise : RiseBetween 1 (pending h one.before ++ s ∷ pending h one.behind) w.tier.next =
      subst (λ l. RiseBetween 1 l w.tier.next) (f.flow.rest ∙ split) (rise_filter (is_pending h) 1 w.tier.log w.tier.next f.flow.stand.over.rise) in
      let known = all_defined_parts w.tier.schema (pending h one.before) s (pending h one.behind)
      (subst (AreOnDefined w.tier.schema) (f.flow.rest ∙ split) (defined_all (live_tables (live_groups_of w.tier.groups)) w.tier.schema (pending h w.tier.log) defined_live f.flow.stand.live)) in
      record {
        before = pending h one.before;
        behind = pending h one.behind;
        is = split;
        fresh = fresh;
        meets = subst (λ l. NoneConflicts l (pending h one.before) s) (sym front.1)
            (none_lower w.tier.schema front.0 h one.before s (pending h one.behind) 1 w.tier.next
            (follows_front (conflicting w.tier.schema) one.before (s ∷ one.behind) s h (subst (λ l. FollowsLower (conflicting w.tier.schema) l s h) one.is (follows (in_log w.tier.unsettled s one)))) rise known.0 known.1);
      }

  mixed : (tail h : List Entry) (own : List Sealed) → Far h → Mixes w.shared own h tail → Each (IsInLog w.tier.unsettled) own → Once (h ++ tail) → KeepsOrder (conflicting w.tier.schema) w.tier.unsettled h tail → Far (h ++ tail)
  mixed [] h own far m each once order = subst Far (sym (append-nil h)) far
  mixed (Definition def ∷ tail) h own far m each once order = absurd m
  mixed (Foreign ops ∷ tail) h own far m each once order =
      let f = flow h far in
      let (n, n_is) = some_state (state_of (h ++ Foreign ops ∷ [])) (m.0.1 f.flow.stand.over.backing f.flow.stand.over.leaves) in
      let off = off_shared w.shared (live_tables (live_groups_of w.tier.groups)) ops (λ t e. live_table w.tier.groups t ∙ apart t e) m.0.0 in
      let next : Far (h ++ Foreign ops ∷ []) = (
        far.0 ++ Others ops ∷ [],
        follows_append x.flow.stand.over.backing.schema (live_tables (live_groups_of w.tier.groups)) far.0 (Others ops ∷ []) w.history w.tier.unsettled h w.tier.unsettled (h ++ Foreign ops ∷ []) w.tier.unsettled far.1
            (record { off = off; state = n; leaves = n_is }, (refl, refl)),
      ) in
      subst Far (append_assoc h (Foreign ops ∷ []) tail) (mixed tail (h ++ Foreign ops ∷ []) own next m.1 each (subst Once (sym (append_assoc h (Foreign ops ∷ []) tail)) once) order)
  mixed (Own ticket ops ∷ tail) h own far (first, rest, is, entry, more) each once order =
      let s : Sealed = record { ticket = ticket; ops = ops } in
      let all : Each (IsInLog w.tier.unsettled) (first ∷ rest) = subst (Each (IsInLog w.tier.unsettled)) is each in
      let one : IsInLog w.tier.unsettled s = subst (IsInLog w.tier.unsettled) (sym (same_sealed ticket ops first entry)) all.0 in
      let fresh : has_ticket ticket.0 h ≡ false = once_before h ticket ops tail once in
      let next : Far (h ++ Own ticket ops ∷ []) = (
        far.0 ++ Came s ∷ [],
        follows_append x.flow.stand.over.backing.schema (live_tables (live_groups_of w.tier.groups)) far.0 (Came s ∷ []) w.history w.tier.unsettled h w.tier.unsettled (h ++ Own ticket ops ∷ []) w.tier.unsettled far.1
            (is_next h s far one fresh order.0, (refl, refl)),
      ) in
      subst Far (append_assoc h (Own ticket ops ∷ []) tail) (mixed tail (h ++ Own ticket ops ∷ []) rest next more all.1 (subst Once (sym (append_assoc h (Own ticket ops ∷ []) tail)) once) order.1)

  -- all that come in a round are its events
  pub comes_as_events : (came : List Sealed) (later : List Entry) → Once w.history → Comes w.shared w.tier.schema w.tier.unsettled came w.history later → Far later
  comes_as_events came later once c =
      subst Far (sym c.is) (mixed c.tail w.history came ([], (refl, refl)) c.mixes
      (all_in came w.tier.unsettled (λ s in_came. in_filter (is_pending w.history) w.tier.unsettled s (in_list (pending w.history w.tier.unsettled) s (c.were_pending s in_came))))
      (subst Once c.is (c.once once)) c.order)

pub round_events : (w : World) (x : Stands w) → IsUnshared w → (came : List Sealed) (later : List Entry) → Comes w.shared w.tier.schema w.tier.unsettled came w.history later
    → (events : List Event) × Follows x.flow.stand.over.backing.schema (live_tables (live_groups_of w.tier.groups)) events w.history w.tier.unsettled later w.tier.unsettled
round_events w x apart came later c = comes_as_events w x apart came later x.flow.stand.over.legal.once c
