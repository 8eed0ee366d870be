-- What a crash may leave: along any events, and over a list of requests.
use Rattle.std.proofs.Common.{◌≡◌, ◌⊎◌, inl, inr, ℕ, ◌≤◌, ◌<◌, max, List, [], ◌∷◌, ◌++◌, map, Bool, true, false, ◌||◌, not, cond, nat_eq, Some, refl, sym, ◌∙◌, ap, subst, arith, append_assoc, append-nil, eqb-true}
use Rattle.std.proofs.lemmas.List.{map-append}
use Rattle.order_laws.specs.table_state.specs.declared.history.Entry.{Entry}
use Rattle.order_laws.specs.table_state.specs.declared.history.Entry.TheVariants.{Definition, Foreign, Own}
use Rattle.order_laws.specs.table_state.specs.declared.history.Sealed.{Sealed}
use Rattle.order_laws.specs.table_state.specs.declared.operation.Op.{Op}
use Rattle.order_laws.specs.table_state.specs.Tables.{TableState}
use Rattle.order_laws.specs.table_state.specs.Histories.{entry_of, has_ticket}
use Rattle.order_laws.specs.table_state.specs.Operations.{applied_all}
use Rattle.order_laws.specs.Commits.{AreOps, HasOps, MayCome, conflicting, is_pending, pending, virtual_state}
use Rattle.order_laws.specs.Sides.{IsClosed}
use Rattle.order_laws.specs.Standing.{AreClosed}
use Rattle.order_laws.specs.Commits.{NoneConflicts}
use Rattle.recovery_laws.specs.Notes.{Catalog, Commit, Define, Drop, FitAll, Fits, Flag, Mark, Named, Note, Number, Prepare, catalog_of, commits_in, empty_catalog, found, groups_of, if_stands, is_for, is_noted, live_groups, log_in, mark_of, next_of, only_found, recall, recall_all, told}
use Rattle.recovery_laws.specs.Matching.{IsMatched}
use Rattle.recovery_laws.specs.Rotations.{definitions, flags_of, rotated}
use Rattle.order_laws.specs.tier_base.specs.declared.number.Ticket.{Ticket}
use Rattle.std.specs.List.{filter}
use Rattle.recovery_laws.specs.Crashes.{Among, AreHeld, AtMoment, CrashClause, CrashRun, NoneThere, Stands, StandsOn, Event, IsLeft, NoneHeld, Over, Path, World, applies, comes, commits, defines, done, drops, flags, flushes, given, numbers, others, passes, prepares, rotates, tables, then, with_commit, with_entry, with_flushed}
use Rattle.recovery_laws.proofs.FoldLaws.{next_grows, noted_below}
use Rattle.recovery_laws.proofs.MatchLaws.{matched_stands, no_later, stands_matched}
use Rattle.recovery_laws.proofs.PushLaws.{fits_front, marks_more, noted_push, quiet_same, recall_push}
use Rattle.std.proofs.Math.Nat.{le-max_right}
use Rattle.recovery_laws.proofs.EventLaws as event
use Rattle.recovery_laws.proofs.EventLaws.{found_none, groups_push, log_one, moved, tail_lost}

-- the last entry tells of nothing: the pair matches without it

mark_quiet : (notes : List Note) (x : Note) → mark_of (x ∷ []) ≡ 0 → mark_of (notes ++ x ∷ []) ≡ mark_of notes
mark_quiet [] x e = e
mark_quiet (Mark n ∷ notes) x e = ap (max n) (mark_quiet notes x e)
mark_quiet (Commit s ∷ notes) x e = mark_quiet notes x e
mark_quiet (Prepare s ∷ notes) x e = mark_quiet notes x e
mark_quiet (Number t ∷ notes) x e = mark_quiet notes x e
mark_quiet (Define name ts ∷ notes) x e = mark_quiet notes x e
mark_quiet (Drop name ∷ notes) x e = mark_quiet notes x e
mark_quiet (Flag name flag ∷ notes) x e = mark_quiet notes x e

last_fits : (h : List Entry) (c : Catalog) (log : List Sealed) (notes : List Note) (x : Note) → FitAll h c log (notes ++ x ∷ []) → Fits h (recall_all notes c) (log ++ log_in h notes) x
last_fits h c log [] x fits = subst (λ (l : List Sealed). Fits h c l x) (sym (append-nil log)) fits.0
last_fits h c log (y ∷ notes) x fits = subst (λ (l : List Sealed). Fits h (recall_all notes (recall y c)) l x) (append_assoc log (told h y) (log_in h notes)) (last_fits h (recall y c) (log ++ told h y) notes x fits.1)

differ : {P : Type 0} (b : Bool) → b ≡ true → b ≡ false → P
differ b x y = cc

without_last : (notes : List Note) (h : List Entry) (x : Note) (s : ℕ) → IsMatched (notes ++ x ∷ []) h → has_ticket s h ≡ false → ((t : ℕ) → is_for t x ≡ nat_eq s t) → told h x ≡ [] → mark_of (x ∷ []) ≡ 0 → live_groups (recall x (catalog_of notes)).groups ≡ groups_of notes
    → IsMatched notes h
without_last notes h x s m fresh mine none unmarked groups =
    let stand = moved (groups_of (notes ++ x ∷ [])) (groups_of notes) h (log_in h (notes ++ x ∷ [])) (log_in h notes) (next_of (notes ++ x ∷ [])) (sym (groups_push notes x ∙ groups)) (sym (log_one h notes x [] none ∙ append-nil (log_in h notes))) (matched_stands (notes ++ x ∷ []) h m) in
    stands_matched notes h (next_of (notes ++ x ∷ [])) (fits_front h empty_catalog [] notes (x ∷ []) m.fits) (λ t there. known t there (m.known t there)) stand
  where
    which : (t : ℕ) → has_ticket t h ≡ true → (a b : Bool) → is_noted t notes ≡ a → nat_eq s t ≡ b → (a || (b || false)) ≡ true → is_noted t notes ≡ true
    which t there true b e f g = e
    which t there false true e f g = differ (has_ticket t h) there (ap (λ u. has_ticket u h) (sym (eqb-true s t f)) ∙ fresh)
    which t there false false e f g = cc

    known : (t : ℕ) → has_ticket t h ≡ true → (t < mark_of (notes ++ x ∷ [])) ⊎ (is_noted t (notes ++ x ∷ []) ≡ true) → (t < mark_of notes) ⊎ (is_noted t notes ≡ true)
    known t there (inl lt) = inl (subst (λ (n : ℕ). t < n) (mark_quiet notes x unmarked) lt)
    known t there (inr e) = inr (which t there (is_noted t notes) (nat_eq s t) refl refl (ap (λ b. is_noted t notes || (b || false)) (sym (mine t)) ∙ sym (noted_push t notes (x ∷ [])) ∙ e))

-- which commits stand in the entries or in the history

commits_push : (notes more : List Note) → commits_in (notes ++ more) ≡ commits_in notes ++ commits_in more
commits_push [] more = refl
commits_push (Commit s ∷ notes) more = ap (λ l. s ∷ l) (commits_push notes more)
commits_push (Prepare s ∷ notes) more = commits_push notes more
commits_push (Number t ∷ notes) more = commits_push notes more
commits_push (Mark n ∷ notes) more = commits_push notes more
commits_push (Define name ts ∷ notes) more = commits_push notes more
commits_push (Drop name ∷ notes) more = commits_push notes more
commits_push (Flag name flag ∷ notes) more = commits_push notes more

pub among_left : (s : Sealed) (xs ys : List Sealed) → Among s xs → Among s (xs ++ ys)
among_left s [] ys a = absurd a
among_left s (x ∷ xs) ys (inl e) = inl e
among_left s (x ∷ xs) ys (inr a) = inr (among_left s xs ys a)

pub among_right : (s : Sealed) (xs ys : List Sealed) → Among s ys → Among s (xs ++ ys)
among_right s [] ys a = a
among_right s (x ∷ xs) ys a = inr (among_right s xs ys a)

pub more_commits : (notes more : List Note) (s : Sealed) → Among s (commits_in notes) → Among s (commits_in (notes ++ more))
more_commits notes more s a = subst (Among s) (sym (commits_push notes more)) (among_left s (commits_in notes) (commits_in more) a)

found_longer : (t : ℕ) (h more : List Entry) (s : Sealed) → found t h ≡ Some s → found t (h ++ more) ≡ Some s
found_longer t [] more s e = cc
found_longer t (Definition def ∷ h) more s e = found_longer t h more s e
found_longer t (Foreign ops ∷ h) more s e = found_longer t h more s e
found_longer t (Own own ops ∷ h) more s e = by (nat_eq own.0 t) e (found_longer t h more s)
  where
    by : (b : Bool) → cond b (Some (record { ticket = own; ops = ops })) (found t h) ≡ Some s → (found t h ≡ Some s → found t (h ++ more) ≡ Some s) → cond b (Some (record { ticket = own; ops = ops })) (found t (h ++ more)) ≡ Some s
    by true f rest = f
    by false f rest = rest f

pub held_more : (notes later : List Note) (h n : List Entry) (log : List Sealed) → ((s : Sealed) → Among s (commits_in notes) → Among s (commits_in later)) → ((t : ℕ) (s : Sealed) → found t h ≡ Some s → found t n ≡ Some s) → AreHeld notes h log → AreHeld later n log
held_more notes later h n [] more longer held = tt
held_more notes later h n (s ∷ log) more longer held = (by held.0, held_more notes later h n log more longer held.1)
  where
    by : Among s (commits_in notes) ⊎ (found s.ticket.0 h ≡ Some s) → Among s (commits_in later) ⊎ (found s.ticket.0 n ≡ Some s)
    by (inl e) = inl (more s e)
    by (inr e) = inr (longer s.ticket.0 s e)

held_append : (notes : List Note) (h : List Entry) (xs ys : List Sealed) → AreHeld notes h xs → AreHeld notes h ys → AreHeld notes h (xs ++ ys)
held_append notes h [] ys a b = b
held_append notes h (x ∷ xs) ys a b = (a.0, held_append notes h xs ys a.1 b)

or_true : (b : Bool) → (b || true) ≡ true
or_true true = refl
or_true false = refl

held_commits : (notes : List Note) (h : List Entry) (late : List Sealed) → AreHeld (notes ++ map Commit late) h late
held_commits notes h [] = tt
held_commits notes h (s ∷ late) = (
  inl (subst (Among s) (sym (commits_push notes (Commit s ∷ map Commit late))) (among_right s (commits_in notes) (s ∷ commits_in (map Commit late)) (inl refl))),
  subst (λ (l : List Note). AreHeld l h late) (append_assoc notes (Commit s ∷ []) (map Commit late)) (held_commits (notes ++ Commit s ∷ []) h late),
)

-- those in the tail stand nowhere
none_held : (notes : List Note) (h : List Entry) (c : Catalog) (log : List Sealed) (late : List Sealed) → ((t : ℕ) → is_noted t notes ≡ true → t < c.next) → FitAll h c log (map Commit late) → NoneThere h late → NoneHeld notes h late
none_held notes h c log [] below fits none = tt
none_held notes h c log (s ∷ late) below fits none = (
  by (is_noted s.ticket.0 notes) refl,
  none.0,
  none_held notes h (recall (Commit s) c) (log ++ s ∷ []) late (λ t e. let a : t < c.next = below t e in let b : c.next ≤ s.ticket.0 = (fits.0).0 in omega arith) fits.1 none.1,
)
  where
    by : (b : Bool) → is_noted s.ticket.0 notes ≡ b → b ≡ false
    by true e = let a : s.ticket.0 < c.next = below s.ticket.0 e in let b : c.next ≤ s.ticket.0 = (fits.0).0 in absurd (omega arith)
    by false e = refl

fits_behind : (h : List Entry) (c : Catalog) (log : List Sealed) (notes more : List Note) → FitAll h c log (notes ++ more) → FitAll h (recall_all notes c) (log ++ log_in h notes) more
fits_behind h c log [] more fits = subst (λ (l : List Sealed). FitAll h c l more) (sym (append-nil log)) fits
fits_behind h c log (y ∷ notes) more fits = subst (λ (l : List Sealed). FitAll h (recall_all notes (recall y c)) l more) (append_assoc log (told h y) (log_in h notes)) (fits_behind h (recall y c) (log ++ told h y) notes more fits.1)

some_same : {X : Type 0} (x y : X) → Some x ≡ Some y → x ≡ y
some_same x y e = cc

over_virtual : (w : World) (b v : TableState) → (m : IsMatched (given w) w.history) → Over w b v → v ≡ m.virtual
over_virtual w b v m o = some_same v m.virtual (sym o.is ∙ m.virtual_is)

over_backing : (w : World) (b v : TableState) → (m : IsMatched (given w) w.history) → Over w b v → b ≡ m.backing
over_backing w b v m o = some_same b m.backing (sym o.leaves ∙ m.leaves)

-- the tail and an entry are flushed
flushed_on : (w : World) (early : List Sealed) (x : List Note) → Stands w early → IsMatched (given w ++ x) w.history → StandsOn (with_flushed (given w ++ x) w) early
flushed_on w early x s m = record {
  now = early ++ w.late;
  stands = record {
    matched = subst (λ (l : List Note). IsMatched l w.history) (sym (append-nil (given w ++ x))) m;
    ahead = tt;
    are = s.are ∙ sym (append-nil (early ++ w.late));
    held = held_append (given w ++ x) w.history early w.late (held_more w.flushed (given w ++ x) w.history w.history early (λ t e. more_commits (given w) x t (more_commits w.flushed (map Commit w.late) t e)) (λ t y e. e) s.held)
        (held_more (given w) (given w ++ x) w.history w.history w.late (λ t e. more_commits (given w) x t e) (λ t y e. e) (held_commits w.flushed w.history w.late));
  };
  more = w.late;
  grows = refl;
}

-- the history is longer
longer_on : (w : World) (early : List Sealed) (e : Entry) → Stands w early → NoneThere (w.history ++ e ∷ []) w.late → IsMatched (given w) (w.history ++ e ∷ []) → StandsOn (with_entry e w) early
longer_on w early e s none m = record {
  now = early;
  stands = record { matched = m; ahead = none; are = s.are; held = held_more w.flushed w.flushed w.history (w.history ++ e ∷ []) early (λ t there. there) (λ t y f. found_longer t w.history (e ∷ []) y f) s.held };
  more = [];
  grows = sym (append-nil early);
}

none_empty : (h : List Entry) (late : List Sealed) → late ≡ [] → NoneThere h late
none_empty h [] e = tt
none_empty h (s ∷ late) e = cc

none_quiet : (h : List Entry) (e : Entry) (late : List Sealed) → ((t : ℕ) → has_ticket t (h ++ e ∷ []) ≡ has_ticket t h) → NoneThere h late → NoneThere (h ++ e ∷ []) late
none_quiet h e [] same none = tt
none_quiet h e (s ∷ late) same none = (same s.ticket.0 ∙ none.0, none_quiet h e late same none.1)

none_push : (h : List Entry) (late : List Sealed) (s : Sealed) → NoneThere h late → has_ticket s.ticket.0 h ≡ false → NoneThere h (late ++ s ∷ [])
none_push h [] s none new = (new, tt)
none_push h (x ∷ late) s none new = (none.0, none_push h late s none.1 new)

pub event_keeps : (w x : World) (early : List Sealed) → Event w x → Stands w early → StandsOn x early
event_keeps w _ early (commits s b v n over le is on) st =
    let m = st.matched in
    let next = event.noted_commit (given w) w.history s n m le (subst (λ (t : TableState). applied_all s.ops t ≡ Some n) (over_virtual w b v m over) is) on in
    let same : given (with_commit s w) ≡ given w ++ Commit s ∷ [] = ap (λ l. w.flushed ++ l) (map-append Commit w.late (s ∷ [])) ∙ sym (append_assoc w.flushed (map Commit w.late) (Commit s ∷ [])) in
    record {
      now = early;
      stands = record {
        matched = subst (λ (l : List Note). IsMatched l w.history) (sym same) next;
        ahead = none_push w.history w.late s st.ahead (no_later w.history (given w) m.fits m.known s.ticket.0 le);
        are = ap (λ l. l ++ s ∷ []) st.are ∙ append_assoc early w.late (s ∷ []);
        held = st.held;
      };
      more = [];
      grows = sym (append-nil early);
    }
event_keeps w _ early flushes st =
    let r = flushed_on w early [] st (subst (λ (l : List Note). IsMatched l w.history) (sym (append-nil (given w))) st.matched) in
    subst (λ (l : List Note). StandsOn (with_flushed l w) early) (append-nil (given w)) r
event_keeps w _ early (prepares s le on) st = flushed_on w early (Prepare s ∷ []) st (event.noted_prepare (given w) w.history s st.matched le on)
event_keeps w _ early (numbers t le) st = flushed_on w early (Number t ∷ []) st (event.noted_number (given w) w.history t st.matched le)
event_keeps w _ early (defines name ts b v over apart closed off) st =
    flushed_on w early (Define name ts ∷ []) st (event.noted_define (given w) w.history name ts st.matched apart (subst (λ (x : TableState). IsClosed ts x.schema) (over_backing w b v st.matched over) closed) off)
event_keeps w _ early (drops name g off) st = flushed_on w early (Drop name ∷ []) st (event.noted_drop (given w) w.history name st.matched g off)
event_keeps w _ early (flags name flag) st = flushed_on w early (Flag name flag ∷ []) st (event.noted_flag (given w) w.history name flag st.matched)
event_keeps w _ early (comes s b v over nothing may) st =
    longer_on w early (entry_of s) st (none_empty (w.history ++ entry_of s ∷ []) w.late nothing)
    (event.comes (given w) w.history s st.matched (subst (λ (x : TableState). MayCome (conflicting x.schema) w.history (log_in w.history (given w)) s) (over_backing w b v st.matched over) may))
event_keeps w _ early (applies front s b v n nothing is over le fresh none app) st =
    let whole : given w ≡ front ++ Prepare s ∷ [] = ap (λ l. w.flushed ++ map Commit l) nothing ∙ append-nil w.flushed ∙ is in
    let m = subst (λ (l : List Note). IsMatched l w.history) whole st.matched in
    let silent : told w.history (Prepare s) ≡ [] = ap (λ c. if_stands c s) fresh in
    let first = without_last front w.history (Prepare s) s.ticket.0 m fresh (λ t. refl) silent refl refl in
    let log : log_in w.history (given w) ≡ log_in w.history front = ap (log_in w.history) whole ∙ log_one w.history front (Prepare s) [] silent ∙ append-nil (log_in w.history front) in
    let vs : v ≡ first.virtual = some_same v first.virtual (sym over.is ∙ ap (virtual_state w.history) log ∙ first.virtual_is) in
    let bs : b ≡ first.backing = some_same b first.backing (sym over.leaves ∙ first.leaves) in
    let fit = last_fits w.history empty_catalog [] front (Prepare s) m.fits in
    let clear : NoneConflicts first.backing.schema (pending w.history (log_in w.history front)) s = subst (λ (x : TableState). NoneConflicts x.schema (pending w.history (log_in w.history front)) s) bs (subst (λ (l : List Sealed). NoneConflicts b.schema (pending w.history l) s) log none) in
    let next = event.prepared_comes front w.history s n first le fit.1 clear (subst (λ (x : TableState). applied_all s.ops x ≡ Some n) vs app) in
    longer_on w early (entry_of s) st (none_empty (w.history ++ entry_of s ∷ []) w.late nothing) (subst (λ (l : List Note). IsMatched l (w.history ++ entry_of s ∷ [])) (sym whole) next)
event_keeps w _ early (passes front s b v n nothing is over le fresh none app) st =
    let x = Number s.ticket.0 in
    let whole : given w ≡ front ++ x ∷ [] = ap (λ l. w.flushed ++ map Commit l) nothing ∙ append-nil w.flushed ∙ is in
    let m = subst (λ (l : List Note). IsMatched l w.history) whole st.matched in
    let silent : told w.history x ≡ [] = ap only_found (found_none s.ticket.0 w.history fresh) in
    let first = without_last front w.history x s.ticket.0 m fresh (λ t. refl) silent refl refl in
    let log : log_in w.history (given w) ≡ log_in w.history front = ap (log_in w.history) whole ∙ log_one w.history front x [] silent ∙ append-nil (log_in w.history front) in
    let vs : v ≡ first.virtual = some_same v first.virtual (sym over.is ∙ ap (virtual_state w.history) log ∙ first.virtual_is) in
    let bs : b ≡ first.backing = some_same b first.backing (sym over.leaves ∙ first.leaves) in
    let clear : NoneConflicts first.backing.schema (pending w.history (log_in w.history front)) s = subst (λ (y : TableState). NoneConflicts y.schema (pending w.history (log_in w.history front)) s) bs (subst (λ (l : List Sealed). NoneConflicts b.schema (pending w.history l) s) log none) in
    let next = event.number_comes front w.history s n first le clear (subst (λ (y : TableState). applied_all s.ops y ≡ Some n) vs app) in
    longer_on w early (entry_of s) st (none_empty (w.history ++ entry_of s ∷ []) w.late nothing) (subst (λ (l : List Note). IsMatched l (w.history ++ entry_of s ∷ [])) (sym whole) next)
event_keeps w _ early (others ops b v n over is off) st =
    longer_on w early (Foreign ops) st (none_quiet w.history (Foreign ops) w.late (λ t. quiet_same t w.history (Foreign ops) tt) st.ahead)
    (event.others_come (given w) w.history ops n st.matched (subst (λ (x : TableState). applied_all ops x ≡ Some n) (over_backing w b v st.matched over) is) off)
event_keeps w _ early (tables def b v over closed) st =
    longer_on w early (Definition def) st (none_quiet w.history (Definition def) w.late (λ t. quiet_same t w.history (Definition def) tt) st.ahead)
    (event.table_comes (given w) w.history def st.matched (subst (λ (x : TableState). AreClosed (groups_of (given w)) (x.schema ++ def ∷ [])) (over_backing w b v st.matched over) closed))
event_keeps w _ early (rotates notes nothing higher matched kept) st = record {
  now = early;
  stands = record {
    matched = subst (λ (l : List Note). IsMatched l w.history) (sym (append-nil notes)) matched;
    ahead = tt;
    are = st.are ∙ ap (λ l. early ++ l) nothing;
    held = subst (AreHeld notes w.history) (st.are ∙ ap (λ l. early ++ l) nothing ∙ append-nil early) kept;
  };
  more = [];
  grows = sym (append-nil early);
}

pub path_keeps : (w x : World) (early : List Sealed) → Path w x → Stands w early → StandsOn x early
path_keeps w _ early done st = record { now = early; stands = st; more = []; grows = sym (append-nil early) }
path_keeps w x early (then {x = mid} e path) st =
    let a = event_keeps w mid early e st in
    let b = path_keeps mid x a.now path a.stands in
    record { now = b.now; stands = b.stands; more = a.more ++ b.more; grows = b.grows ∙ ap (λ l. l ++ b.more) a.grows ∙ append_assoc early a.more b.more }

-- a crash between two events
pub crash_left : (w : World) (early durable : List Sealed) → Stands w early → (more : List Sealed) → early ≡ durable ++ more → IsLeft durable w.commits w.flushed w.history
crash_left w early durable st more e = record {
  matched = tail_lost w.flushed w.history w.late st.matched st.ahead;
  front = early;
  lost = w.late;
  are = st.are;
  held = st.held;
  none = none_held w.flushed w.history (catalog_of w.flushed) ([] ++ log_in w.history w.flushed) w.late (λ t there. noted_below w.history empty_catalog [] w.flushed t (fits_front w.history empty_catalog [] w.flushed (map Commit w.late) (st.matched).fits) there)
      (fits_behind w.history empty_catalog [] w.flushed (map Commit w.late) (st.matched).fits) st.ahead;
  more = more;
  durable_are = e;
}

-- the next ticket never falls

next_more : (h : List Entry) (notes more : List Note) → FitAll h empty_catalog [] (notes ++ more) → next_of notes ≤ next_of (notes ++ more)
next_more h notes more fits =
    let a : mark_of notes ≤ mark_of (notes ++ more) = marks_more notes more in
    let b : (catalog_of notes).next ≤ (recall_all more (catalog_of notes)).next = next_grows h (catalog_of notes) ([] ++ log_in h notes) more (fits_behind h empty_catalog [] notes more fits) in
    let c : (catalog_of notes).next ≤ (catalog_of (notes ++ more)).next = subst (λ (x : Catalog). (catalog_of notes).next ≤ x.next) (sym (recall_push notes more empty_catalog)) b in
    both (mark_of notes) (catalog_of notes).next (mark_of (notes ++ more)) (catalog_of (notes ++ more)).next a c
  where
    both : (m n p q : ℕ) → m ≤ p → n ≤ q → max m n ≤ max p q
    both m n p q a b = omega (arith, a, b)

flushed_next : (w : World) (x : List Note) → IsMatched (given (with_flushed (given w ++ x) w)) w.history → next_of (given w) ≤ next_of (given (with_flushed (given w ++ x) w))
flushed_next w x m =
    let same : given (with_flushed (given w ++ x) w) ≡ given w ++ x = append-nil (given w ++ x) in
    subst (λ (l : List Note). next_of (given w) ≤ next_of l) (sym same) (next_more w.history (given w) x (subst (λ (l : List Note). FitAll w.history empty_catalog [] l) same m.fits))

pub next_rises : (w x : World) (early : List Sealed) → Event w x → Stands x early → next_of (given w) ≤ next_of (given x)
next_rises w _ early (commits s b v n over le is on) st =
    let same : given (with_commit s w) ≡ given w ++ Commit s ∷ [] = ap (λ l. w.flushed ++ l) (map-append Commit w.late (s ∷ [])) ∙ sym (append_assoc w.flushed (map Commit w.late) (Commit s ∷ [])) in
    subst (λ (l : List Note). next_of (given w) ≤ next_of l) (sym same) (next_more w.history (given w) (Commit s ∷ []) (subst (λ (l : List Note). FitAll w.history empty_catalog [] l) same (st.matched).fits))
next_rises w _ early flushes st = subst (λ (l : List Note). next_of (given w) ≤ next_of l) (sym (append-nil (given w))) (omega arith)
next_rises w _ early (prepares s le on) st = flushed_next w (Prepare s ∷ []) st.matched
next_rises w _ early (numbers t le) st = flushed_next w (Number t ∷ []) st.matched
next_rises w _ early (defines name ts b v over apart closed off) st = flushed_next w (Define name ts ∷ []) st.matched
next_rises w _ early (drops name g off) st = flushed_next w (Drop name ∷ []) st.matched
next_rises w _ early (flags name flag) st = flushed_next w (Flag name flag ∷ []) st.matched
next_rises w _ early (comes s b v over nothing may) st = omega arith
next_rises w _ early (applies front s b v n nothing is over le fresh none app) st = omega arith
next_rises w _ early (passes front s b v n nothing is over le fresh none app) st = omega arith
next_rises w _ early (others ops b v n over is off) st = omega arith
next_rises w _ early (tables def b v over closed) st = omega arith
next_rises w _ early (rotates notes nothing higher matched kept) st = subst (λ (l : List Note). next_of (given w) ≤ next_of l) (sym (append-nil notes)) higher

-- all from this ticket on
abbrev pub Above : ℕ → List Sealed → Type 0
Above low [] = Unit {0}
Above low (s ∷ log) = (low ≤ s.ticket.0) × Above low log

-- what was committed on a path
record Committed (low : ℕ) (w x : World) : Type 0 where
  more : List Sealed
  are : x.commits ≡ w.commits ++ more
  above : Above low more

one_committed : (low : ℕ) (w x : World) → Event w x → low ≤ next_of (given w) → Committed low w x
one_committed low w _ (commits s b v n over le is on) l = record { more = s ∷ []; are = refl; above = (omega (arith, le, l), tt) }
one_committed low w _ flushes l = record { more = []; are = sym (append-nil w.commits); above = tt }
one_committed low w _ (prepares s le on) l = record { more = []; are = sym (append-nil w.commits); above = tt }
one_committed low w _ (numbers t le) l = record { more = []; are = sym (append-nil w.commits); above = tt }
one_committed low w _ (defines name ts b v over apart closed off) l = record { more = []; are = sym (append-nil w.commits); above = tt }
one_committed low w _ (drops name g off) l = record { more = []; are = sym (append-nil w.commits); above = tt }
one_committed low w _ (flags name flag) l = record { more = []; are = sym (append-nil w.commits); above = tt }
one_committed low w _ (comes s b v over nothing may) l = record { more = []; are = sym (append-nil w.commits); above = tt }
one_committed low w _ (applies front s b v n nothing is over le fresh none app) l = record { more = []; are = sym (append-nil w.commits); above = tt }
one_committed low w _ (passes front s b v n nothing is over le fresh none app) l = record { more = []; are = sym (append-nil w.commits); above = tt }
one_committed low w _ (others ops b v n over is off) l = record { more = []; are = sym (append-nil w.commits); above = tt }
one_committed low w _ (tables def b v over closed) l = record { more = []; are = sym (append-nil w.commits); above = tt }
one_committed low w _ (rotates notes nothing higher matched kept) l = record { more = []; are = sym (append-nil w.commits); above = tt }

above_append : (low : ℕ) (xs ys : List Sealed) → Above low xs → Above low ys → Above low (xs ++ ys)
above_append low [] ys a b = b
above_append low (x ∷ xs) ys a b = (a.0, above_append low xs ys a.1 b)

path_committed : (low : ℕ) (w x : World) (early : List Sealed) → Path w x → Stands w early → low ≤ next_of (given w) → Committed low w x
path_committed low w _ early done st le = record { more = []; are = sym (append-nil w.commits); above = tt }
path_committed low w x early (then {x = mid} e path) st le =
    let a = event_keeps w mid early e st in
    let one = one_committed low w mid e le in
    let up : next_of (given w) ≤ next_of (given mid) = next_rises w mid a.now e a.stands in
    let two = path_committed low mid x a.now path a.stands (omega (arith, le, up)) in
    record { more = one.more ++ two.more; are = two.are ∙ ap (λ l. l ++ two.more) one.are ∙ append_assoc w.commits one.more two.more; above = above_append low one.more two.more one.above two.above }

-- what is committed later isn't held yet
none_yet : (w : World) (early : List Sealed) (log : List Sealed) → Stands w early → Above (next_of (given w)) log → NoneHeld w.flushed w.history log
none_yet w early [] st above = tt
none_yet w early (s ∷ log) st above = (
  by (is_noted s.ticket.0 w.flushed) refl,
  no_later w.history (given w) (st.matched).fits (st.matched).known s.ticket.0 above.0,
  none_yet w early log st above.1,
)
  where
    by : (b : Bool) → is_noted s.ticket.0 w.flushed ≡ b → b ≡ false
    by true e =
        let there : is_noted s.ticket.0 (given w) ≡ true = noted_push s.ticket.0 w.flushed (map Commit w.late) ∙ ap (λ b. b || is_noted s.ticket.0 (map Commit w.late)) e in
        let lt : s.ticket.0 < (catalog_of (given w)).next = noted_below w.history empty_catalog [] (given w) s.ticket.0 (st.matched).fits there in
        let top : (catalog_of (given w)).next ≤ next_of (given w) = le-max_right (mark_of (given w)) (catalog_of (given w)).next in
        let le : next_of (given w) ≤ s.ticket.0 = above.0 in
        absurd (omega arith)
    by false e = refl

none_append : (notes : List Note) (h : List Entry) (xs ys : List Sealed) → NoneHeld notes h xs → NoneHeld notes h ys → NoneHeld notes h (xs ++ ys)
none_append notes h [] ys a b = b
none_append notes h (x ∷ xs) ys a b = (a.0, a.1, none_append notes h xs ys a.2 b)

-- A crash at a moment on the path of a request: of all that is committed at its end a front is held, with all that was held
-- when it began.
pub moment_left : (w x : World) (early : List Sealed) (notes : List Note) (history : List Entry) → Stands w early → (at : AtMoment w x notes history) → IsLeft early x.commits notes history
moment_left w x early notes history st at =
    let r = path_keeps w at.mid early at.before st in
    let c = path_committed (next_of (given at.mid)) at.mid x r.now at.behind r.stands (omega arith) in
    let left = crash_left at.mid r.now early r.stands r.more r.grows in
    let whole : IsLeft early x.commits at.mid.flushed at.mid.history = record {
      matched = left.matched;
      front = left.front;
      lost = left.lost ++ c.more;
      are = c.are ∙ ap (λ l. l ++ c.more) left.are ∙ append_assoc left.front left.lost c.more;
      held = left.held;
      none = none_append at.mid.flushed at.mid.history left.lost c.more left.none (none_yet at.mid r.now c.more r.stands c.above);
      more = left.more;
      durable_are = left.durable_are;
    } in
    subst (λ (l : List Note). IsLeft early x.commits l history) (sym at.notes_are) (subst (λ (l : List Entry). IsLeft early x.commits at.mid.flushed l) (sym at.history_is) whole)

pub crash_clause : (possible : ℕ → List Note → List Entry → Type 0) (moment : ℕ) (w : World) (early : List Sealed) (moments : List ℕ) (last : World) → Stands w early → CrashRun possible moment w moments last → CrashClause possible moment w early moments last
crash_clause possible moment w early [] last st run = run
crash_clause possible moment w early (m ∷ moments) last st run =
    let next = run.0 in
    let r = path_keeps w next early run.1 st in
    (next, r.now, r.stands, λ k notes history low high may. (let at = run.3 k notes history low high may in (at, moment_left w next early notes history st at)), crash_clause possible m next r.now moments last r.stands run.4)

-- a rotation holds what was held, where all that is pending is kept

commit_told : (s : Sealed) (h : List Entry) (notes : List Note) → Among s (commits_in notes) → Among s (log_in h notes)
commit_told s h [] a = a
commit_told s h (Commit x ∷ notes) (inl e) = inl e
commit_told s h (Commit x ∷ notes) (inr a) = inr (commit_told s h notes a)
commit_told s h (Prepare x ∷ notes) a = among_right s (told h (Prepare x)) (log_in h notes) (commit_told s h notes a)
commit_told s h (Number t ∷ notes) a = among_right s (told h (Number t)) (log_in h notes) (commit_told s h notes a)
commit_told s h (Mark n ∷ notes) a = commit_told s h notes a
commit_told s h (Define name ts ∷ notes) a = commit_told s h notes a
commit_told s h (Drop name ∷ notes) a = commit_told s h notes a
commit_told s h (Flag name flag ∷ notes) a = commit_told s h notes a

their_ops : (log : List Sealed) (s : Sealed) (ticket : Ticket) (ops : List Op) → AreOps log ticket ops → Among s log → s.ticket.0 ≡ ticket.0 → ops ≡ s.ops
their_ops [] s ticket ops are a e = absurd a
their_ops (x ∷ log) s ticket ops are (inl same) e = are.0 (ap (λ (y : Sealed). y.ticket.0) same ∙ e) ∙ ap (λ (y : Sealed). y.ops) same
their_ops (x ∷ log) s ticket ops are (inr a) e = their_ops log s ticket ops are.1 a e

found_ops : (log : List Sealed) (h : List Entry) (s : Sealed) → HasOps log h → Among s log → has_ticket s.ticket.0 h ≡ true → found s.ticket.0 h ≡ Some s
found_ops log [] s has a e = cc
found_ops log (Definition def ∷ h) s has a e = found_ops log h s has a e
found_ops log (Foreign ops ∷ h) s has a e = found_ops log h s has a e
found_ops log (Own own ops ∷ h) s has a e = by (nat_eq own.0 s.ticket.0) refl e (found_ops log h s has.1 a)
  where
    by : (b : Bool) → nat_eq own.0 s.ticket.0 ≡ b → (b || has_ticket s.ticket.0 h) ≡ true → (has_ticket s.ticket.0 h ≡ true → found s.ticket.0 h ≡ Some s) → cond b (Some (record { ticket = own; ops = ops })) (found s.ticket.0 h) ≡ Some s
    by true f g more = let x : own.0 ≡ s.ticket.0 = eqb-true own.0 s.ticket.0 f in let o : ops ≡ s.ops = their_ops log s own ops has.0 a (sym x) in λ i. Some (record { ticket = record { 0 = x i }; ops = o i })
    by false f g more = more g

among_filter : (p : Sealed → Bool) (s : Sealed) (xs : List Sealed) → Among s xs → p s ≡ true → Among s (filter p xs)
among_filter p s [] a e = a
among_filter p s (x ∷ xs) a e = by (p x) refl a (among_filter p s xs)
  where
    by : (b : Bool) → p x ≡ b → (x ≡ s) ⊎ Among s xs → (Among s xs → p s ≡ true → Among s (filter p xs)) → Among s (cond b (x ∷ filter p xs) (filter p xs))
    by true f (inl same) more = inl same
    by true f (inr c) more = inr (more c e)
    by false f (inl same) more = differ (p s) e (ap p (sym same) ∙ f)
    by false f (inr c) more = more c e

commits_of_rotated : (next : ℕ) (gs : List Named) (fs : List (List ℕ × ℕ)) (u : List Sealed) → commits_in (rotated next gs fs u) ≡ u
commits_of_rotated next gs fs u = commits_push (definitions gs) (flags_of fs ++ map Commit u) ∙ (λ i. defs gs i ++ (commits_push (flags_of fs) (map Commit u) ∙ (λ j. flags fs j ++ these u j)) i)
  where
    defs : (gs : List Named) → commits_in (definitions gs) ≡ []
    defs [] = refl
    defs (g ∷ gs) = commits_push (definitions gs) (Define g.name g.group.tables ∷ []) ∙ append-nil (commits_in (definitions gs)) ∙ defs gs

    flags : (fs : List (List ℕ × ℕ)) → commits_in (flags_of fs) ≡ []
    flags [] = refl
    flags (f ∷ fs) = flags fs

    these : (u : List Sealed) → commits_in (map Commit u) ≡ u
    these [] = refl
    these (s ∷ u) = ap (λ l. s ∷ l) (these u)

pub rotation_holds : (notes : List Note) (h : List Entry) (next : ℕ) (gs : List Named) (fs : List (List ℕ × ℕ)) (u log : List Sealed) → IsMatched notes h → ((s : Sealed) → Among s (pending h (log_in h notes)) → Among s u) → AreHeld notes h log → AreHeld (rotated next gs fs u) h log
rotation_holds notes h next gs fs u [] m all held = tt
rotation_holds notes h next gs fs u (s ∷ log) m all held = (by held.0, rotation_holds notes h next gs fs u log m all held.1)
  where
    which : (b : Bool) → has_ticket s.ticket.0 h ≡ b → Among s (commits_in notes) → Among s (commits_in (rotated next gs fs u)) ⊎ (found s.ticket.0 h ≡ Some s)
    which true e a = inr (found_ops (log_in h notes) h s m.legal.ops (commit_told s h notes a) e)
    which false e a = inl (subst (Among s) (sym (commits_of_rotated next gs fs u)) (all s (among_filter (is_pending h) s (log_in h notes) (commit_told s h notes a) (ap not e))))

    by : Among s (commits_in notes) ⊎ (found s.ticket.0 h ≡ Some s) → Among s (commits_in (rotated next gs fs u)) ⊎ (found s.ticket.0 h ≡ Some s)
    by (inl a) = which (has_ticket s.ticket.0 h) refl a
    by (inr e) = inr e
