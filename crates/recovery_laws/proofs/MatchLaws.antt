-- A matching pair stands, and what stands matches.
use Rattle.std.proofs.Common.{◌≡◌, ◌⊎◌, inl, inr, ℕ, ◌+◌, ◌≤◌, ◌<◌, List, [], ◌∷◌, ◌++◌, map, Bool, true, false, ◌||◌, not, cond, refl, sym, ◌∙◌, ap, subst, arith, append_assoc, append-nil, eq-eqb}
use Rattle.std.proofs.Math.Nat.{le-max_left, le-max_right}
use Rattle.std.proofs.lemmas.List.Elements.{filter-append}
use Rattle.order_laws.specs.table_defs.specs.declared.definition.TableDef.{TableDef}
use Rattle.order_laws.specs.table_state.specs.declared.history.Entry.{Entry}
use Rattle.order_laws.specs.table_state.specs.declared.history.Sealed.{Sealed}
use Rattle.order_laws.specs.table_state.specs.Histories.{entry_of, has_ticket}
use Rattle.order_laws.specs.Commits.{FollowsLower, LiveGroup, MayCome, RiseBetween, conflicting, is_pending, pending}
use Rattle.order_laws.specs.Standing.{AreClosed, GroupsAreOrdered, Stand, progress_of}
use Rattle.order_laws.proofs.NextLaws.{before_has_not, behind_has_not, same_pending}
use Rattle.order_laws.proofs.WholeLaws.{stand_comes}
use Rattle.order_laws.specs.table_state.proofs.HistoryLaws.{has_ticket-append}
use Rattle.recovery_laws.specs.Notes.{FitAll, Note, catalog_of, empty_catalog, groups_of, is_noted, log_in, mark_of, next_of}
use Rattle.recovery_laws.specs.Matching.{HaveOrder, IsMatched}
use Rattle.recovery_laws.proofs.FoldLaws.{fold_rise, noted_below, rise_higher}
use Rattle.recovery_laws.proofs.GoodLaws.{AllBelow, Good, good_all}

pub zip_ordered : (groups : List LiveGroup) (h : List Entry) (log : List Sealed) (schema : List TableDef) (next later : ℕ) → next ≤ later → AllBelow groups h log next → HaveOrder groups h log → AreClosed groups schema → GroupsAreOrdered groups h log schema later
zip_ordered [] h log schema next later le below orders closed = tt
zip_ordered (g ∷ groups) h log schema next later le below orders closed =
    let first : g.first ≤ next = below.0 in (
      record { closed = closed.0; first = omega (arith, le); none_below = below.1; state = (orders.0).0; ordered = (orders.0).1 },
      zip_ordered groups h log schema next later le below.2 orders.1 closed.1,
    )

unzip_order : (groups : List LiveGroup) (h : List Entry) (log : List Sealed) (schema : List TableDef) (next : ℕ) → GroupsAreOrdered groups h log schema next → HaveOrder groups h log
unzip_order [] h log schema next all = tt
unzip_order (g ∷ groups) h log schema next all = (((all.0).state, (all.0).ordered), unzip_order groups h log schema next all.1)

unzip_closed : (groups : List LiveGroup) (h : List Entry) (log : List Sealed) (schema : List TableDef) (next : ℕ) → GroupsAreOrdered groups h log schema next → AreClosed groups schema
unzip_closed [] h log schema next all = tt
unzip_closed (g ∷ groups) h log schema next all = ((all.0).closed, unzip_closed groups h log schema next all.1)

pub no_later : (h : List Entry) (notes : List Note) → FitAll h empty_catalog [] notes → ((t : ℕ) → has_ticket t h ≡ true → (t < mark_of notes) ⊎ (is_noted t notes ≡ true)) → (t : ℕ) → next_of notes ≤ t → has_ticket t h ≡ false
no_later h notes fits known t le = by (has_ticket t h) refl
  where
    mark : mark_of notes ≤ next_of notes
    mark = le-max_left (mark_of notes) (catalog_of notes).next

    last : (catalog_of notes).next ≤ next_of notes
    last = le-max_right (mark_of notes) (catalog_of notes).next

    which : (t < mark_of notes) ⊎ (is_noted t notes ≡ true) → ⊥
    which (inl lt) = omega (arith, le, mark)
    which (inr there) = let lt : t < (catalog_of notes).next = noted_below h empty_catalog [] notes t fits there in omega (arith, le, last)

    by : (b : Bool) → has_ticket t h ≡ b → b ≡ false
    by true e = absurd (which (known t e))
    by false e = refl

pub good_of : (notes : List Note) (h : List Entry) → FitAll h empty_catalog [] notes → Good h (catalog_of notes) (log_in h notes)
good_of notes h fits = good_all h empty_catalog [] notes (record { live = refl; below = tt }) fits

-- the transactions of a matching pair stand
abbrev pub matched_stands : (notes : List Note) (h : List Entry) → IsMatched notes h → Stand (progress_of (groups_of notes) h (log_in h notes) (next_of notes))
matched_stands notes h m =
    let good = good_of notes h m.fits in
    let last : (catalog_of notes).next ≤ next_of notes = le-max_right (mark_of notes) (catalog_of notes).next in
    record {
      over = record {
        backing = m.backing;
        leaves = m.leaves;
        virtual = m.virtual;
        virtual_is = m.virtual_is;
        rise = rise_higher 1 (log_in h notes) (catalog_of notes).next (next_of notes) last (fold_rise h empty_catalog [] notes m.fits);
        below = no_later h notes m.fits m.known;
        legal = m.legal;
        ordered = zip_ordered (groups_of notes) h (log_in h notes) m.backing.schema (catalog_of notes).next (next_of notes) last good.below m.ordered m.closed;
      };
      live = good.live;
      known = m.tables;
    }

-- and what stands matches
pub stands_matched : (notes : List Note) (h : List Entry) (next : ℕ) → FitAll h empty_catalog [] notes → ((t : ℕ) → has_ticket t h ≡ true → (t < mark_of notes) ⊎ (is_noted t notes ≡ true)) → Stand (progress_of (groups_of notes) h (log_in h notes) next) → IsMatched notes h
stands_matched notes h next fits known stand = record {
  fits = fits;
  known = known;
  backing = stand.over.backing;
  leaves = stand.over.leaves;
  virtual = stand.over.virtual;
  virtual_is = stand.over.virtual_is;
  legal = stand.over.legal;
  ordered = unzip_order (groups_of notes) h (log_in h notes) stand.over.backing.schema next stand.over.ordered;
  closed = unzip_closed (groups_of notes) h (log_in h notes) stand.over.backing.schema next stand.over.ordered;
  tables = stand.known;
}

-- the first pending transaction may come next

follows_above : (c : Sealed → Sealed → Bool) (low : ℕ) (log : List Sealed) (high : ℕ) (s : Sealed) (h : List Entry) → RiseBetween low log high → s.ticket.0 ≤ low → FollowsLower c log s h
follows_above c low [] high s h rise above = tt
follows_above c low (x ∷ log) high s h rise above =
    let first : low ≤ x.ticket.0 = rise.0 in
    let higher : s.ticket.0 ≤ x.ticket.0 + 1 = omega (arith, above) in
    (λ lower. absurd (omega (arith, above)), follows_above c (x.ticket.0 + 1) log high s h rise.1 higher)

-- where the first pending one stands
pub record First (h : List Entry) (log : List Sealed) (s : Sealed) (rest : List Sealed) : Type 0 where
  pub before : List Sealed
  pub behind : List Sealed
  pub is : log ≡ before ++ s ∷ behind
  pub none : pending h before ≡ []
  pub later : pending h behind ≡ rest
  pub fresh : has_ticket s.ticket.0 h ≡ false

pub first_pending : (h : List Entry) (log : List Sealed) (s : Sealed) (rest : List Sealed) → pending h log ≡ s ∷ rest → First h log s rest
first_pending h [] s rest e = cc
first_pending h (x ∷ log) s rest e = by (has_ticket x.ticket.0 h) refl e (first_pending h log s rest)
  where
    by : (b : Bool) → has_ticket x.ticket.0 h ≡ b → cond (not b) (x ∷ pending h log) (pending h log) ≡ s ∷ rest → (pending h log ≡ s ∷ rest → First h log s rest) → First h (x ∷ log) s rest
    by true there f more =
        let r = more f in
        record { before = x ∷ r.before; behind = r.behind; is = ap (λ l. x ∷ l) r.is; none = ap (λ b. cond (not b) (x ∷ pending h r.before) (pending h r.before)) there ∙ r.none; later = r.later; fresh = r.fresh }
    by false new f more =
        let same : x ≡ s = cc in
        record { before = []; behind = log; is = ap (λ y. y ∷ log) same; none = refl; later = cc; fresh = ap (λ (y : Sealed). has_ticket y.ticket.0 h) (sym same) ∙ new }

follows_first : (c : Sealed → Sealed → Bool) (low : ℕ) (before : List Sealed) (s : Sealed) (behind : List Sealed) (high : ℕ) (h : List Entry) → RiseBetween low (before ++ s ∷ behind) high → pending h before ≡ [] → FollowsLower c (before ++ s ∷ behind) s h
follows_first c low [] s behind high h rise none = (λ lower. absurd (omega arith), follows_above c (s.ticket.0 + 1) behind high s h rise.1 (omega arith))
follows_first c low (b ∷ before) s behind high h rise none = by (has_ticket b.ticket.0 h) refl none (follows_first c (b.ticket.0 + 1) before s behind high h rise.1)
  where
    by : (r : Bool) → has_ticket b.ticket.0 h ≡ r → cond (not r) (b ∷ pending h before) (pending h before) ≡ [] → (pending h before ≡ [] → FollowsLower c (before ++ s ∷ behind) s h) → FollowsLower c (b ∷ (before ++ s ∷ behind)) s h
    by true there e more = (λ lower conflicts. there, more e)
    by false there e more = cc

pub first_may_come : (c : Sealed → Sealed → Bool) (h : List Entry) (log : List Sealed) (high : ℕ) (s : Sealed) (rest : List Sealed) → RiseBetween 1 log high → First h log s rest → MayCome c h log s
first_may_come c h log high s rest rise f = record {
  one = record { before = f.before; behind = f.behind; is = f.is };
  fresh = f.fresh;
  follows = subst (λ (l : List Sealed). FollowsLower c l s h) (sym f.is) (follows_first c 1 f.before s f.behind high h (subst (λ (l : List Sealed). RiseBetween 1 l high) f.is rise) f.none);
}

-- once it has come the others are pending
pub came_rest : (h : List Entry) (log : List Sealed) (high : ℕ) (s : Sealed) (rest : List Sealed) → RiseBetween 1 log high → First h log s rest → pending (h ++ entry_of s ∷ []) log ≡ rest
came_rest h log high s rest rise f =
    let now = h ++ entry_of s ∷ [] in
    let rising = subst (λ (l : List Sealed). RiseBetween 1 l high) f.is rise in
    let here : has_ticket s.ticket.0 now ≡ true = has_ticket-append s.ticket.0 h (entry_of s ∷ []) ∙ ap (λ b. has_ticket s.ticket.0 h || (b || false)) (eq-eqb s.ticket.0 s.ticket.0 refl) ∙ or_true (has_ticket s.ticket.0 h) in
    ap (pending now) f.is
    ∙ filter-append (is_pending now) f.before (s ∷ f.behind)
    ∙ (λ i. (same_pending h s f.before (before_has_not 1 f.before s f.behind high rising) ∙ f.none) i ++ cond (not (here i)) (s ∷ pending now f.behind) (pending now f.behind))
    ∙ same_pending h s f.behind (behind_has_not 1 f.before s f.behind high rising)
    ∙ f.later
  where
    or_true : (b : Bool) → (b || true) ≡ true
    or_true true = refl
    or_true false = refl

-- A serial round brings all that is pending: it stands, and nothing is pending.
pub record Drained (groups : List LiveGroup) (h : List Entry) (log : List Sealed) (next : ℕ) (entries : List Entry) : Type 0 where
  pub stand : Stand (progress_of groups (h ++ entries) log next)
  pub none : pending (h ++ entries) log ≡ []

pub drains : (groups : List LiveGroup) (h : List Entry) (log : List Sealed) (next : ℕ) (waiting : List Sealed) → Stand (progress_of groups h log next) → pending h log ≡ waiting → Drained groups h log next (map entry_of waiting)
drains groups h log next [] stand e = record { stand = subst (λ (l : List Entry). Stand (progress_of groups l log next)) (sym (append-nil h)) stand; none = ap (λ l. pending l log) (append-nil h) ∙ e }
drains groups h log next (s ∷ waiting) stand e =
    let f = first_pending h log s waiting e in
    let now = stand_comes groups h log next stand s (first_may_come (conflicting stand.over.backing.schema) h log next s waiting stand.over.rise f) in
    let d = drains groups (h ++ entry_of s ∷ []) log next waiting now.0 (came_rest h log next s waiting stand.over.rise f) in
    let same : (h ++ entry_of s ∷ []) ++ map entry_of waiting ≡ h ++ entry_of s ∷ map entry_of waiting = append_assoc h (entry_of s ∷ []) (map entry_of waiting) in
    record { stand = subst (λ (l : List Entry). Stand (progress_of groups l log next)) same d.stand; none = ap (λ l. pending l log) (sym same) ∙ d.none }
