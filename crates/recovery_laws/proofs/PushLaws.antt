-- An entry more, and a longer history.
use Rattle.std.proofs.Common.{◌≡◌, ◌⊎◌, inl, inr, ℕ, ◌+◌, ◌≤◌, ◌<◌, max, List, [], ◌∷◌, ◌++◌, Bool, true, false, ◌||◌, ◌&&◌, not, cond, nat_eq, Option, Some, None, refl, sym, ◌∙◌, ap, subst, arith, append_assoc, append-nil, eqb-true}
use Rattle.std.proofs.lemmas.List.Elements.{filter-append}
use Rattle.std.proofs.lemmas.List.Folds.{list_all-append}
use Rattle.order_laws.specs.tier_base.specs.declared.number.TableId.{TableId}
use Rattle.order_laws.specs.table_state.specs.declared.history.Entry.{Entry}
use Rattle.order_laws.specs.table_state.specs.declared.history.Entry.TheVariants.{Definition, Foreign, Own}
use Rattle.order_laws.specs.table_state.specs.declared.history.Sealed.{Sealed}
use Rattle.order_laws.specs.table_state.specs.Histories.{entry_of, has_ticket}
use Rattle.order_laws.specs.table_state.proofs.HistoryLaws.{has_ticket-append}
use Rattle.order_laws.specs.Commits.{is_pending, pending}
use Rattle.order_laws.specs.Sides.{are_off}
use Rattle.order_laws.specs.Standing.{all_off}
use Rattle.order_laws.proofs.TruthLaws.{both_true}
use Rattle.recovery_laws.specs.Notes.{Catalog, Commit, Define, Drop, FitAll, Fits, Flag, Mark, Note, Number, Prepare, commits_in, found, if_stands, is_for, is_noted, log_in, mark_of, only_found, recall, recall_all, told}
use Rattle.recovery_laws.proofs.FoldLaws.{found_there, next_grows}

-- one entry more

pub recall_push : (notes more : List Note) (c : Catalog) → recall_all (notes ++ more) c ≡ recall_all more (recall_all notes c)
recall_push [] more c = refl
recall_push (x ∷ notes) more c = recall_push notes more (recall x c)

pub log_push : (h : List Entry) (notes more : List Note) → log_in h (notes ++ more) ≡ log_in h notes ++ log_in h more
log_push h [] more = refl
log_push h (x ∷ notes) more = ap (λ l. told h x ++ l) (log_push h notes more) ∙ sym (append_assoc (told h x) (log_in h notes) (log_in h more))

pub fits_push : (h : List Entry) (c : Catalog) (log : List Sealed) (notes more : List Note) → FitAll h c log notes → FitAll h (recall_all notes c) (log ++ log_in h notes) more → FitAll h c log (notes ++ more)
fits_push h c log [] more fits last = subst (λ (l : List Sealed). FitAll h c l more) (append-nil log) last
fits_push h c log (x ∷ notes) more fits last =
    (fits.0, fits_push h (recall x c) (log ++ told h x) notes more fits.1 (subst (λ (l : List Sealed). FitAll h (recall_all notes (recall x c)) l more) (sym (append_assoc log (told h x) (log_in h notes))) last))

pub fits_front : (h : List Entry) (c : Catalog) (log : List Sealed) (notes more : List Note) → FitAll h c log (notes ++ more) → FitAll h c log notes
fits_front h c log [] more fits = tt
fits_front h c log (x ∷ notes) more fits = (fits.0, fits_front h (recall x c) (log ++ told h x) notes more fits.1)

pub noted_push : (t : ℕ) (notes more : List Note) → is_noted t (notes ++ more) ≡ (is_noted t notes || is_noted t more)
noted_push t [] more = refl
noted_push t (x ∷ notes) more = ap (λ b. is_for t x || b) (noted_push t notes more) ∙ or_assoc (is_for t x) (is_noted t notes) (is_noted t more)
  where
    or_assoc : (a b c : Bool) → (a || (b || c)) ≡ ((a || b) || c)
    or_assoc true b c = refl
    or_assoc false b c = refl

pub marks_more : (notes more : List Note) → mark_of notes ≤ mark_of (notes ++ more)
marks_more [] more = omega arith
marks_more (Mark n ∷ notes) more = let r : mark_of notes ≤ mark_of (notes ++ more) = marks_more notes more in omega arith
marks_more (Commit s ∷ notes) more = marks_more notes more
marks_more (Prepare s ∷ notes) more = marks_more notes more
marks_more (Number t ∷ notes) more = marks_more notes more
marks_more (Define name tables ∷ notes) more = marks_more notes more
marks_more (Drop name ∷ notes) more = marks_more notes more
marks_more (Flag name flag ∷ notes) more = marks_more notes more

pub mark_commits : (notes : List Note) (s : Sealed) → mark_of (notes ++ Commit s ∷ []) ≡ mark_of notes
mark_commits [] s = refl
mark_commits (Mark n ∷ notes) s = ap (max n) (mark_commits notes s)
mark_commits (Commit x ∷ notes) s = mark_commits notes s
mark_commits (Prepare x ∷ notes) s = mark_commits notes s
mark_commits (Number t ∷ notes) s = mark_commits notes s
mark_commits (Define name tables ∷ notes) s = mark_commits notes s
mark_commits (Drop name ∷ notes) s = mark_commits notes s
mark_commits (Flag name flag ∷ notes) s = mark_commits notes s

abbrev pub Known : List Note → List Entry → Type 0
Known notes h = (t : ℕ) → has_ticket t h ≡ true → (t < mark_of notes) ⊎ (is_noted t notes ≡ true)

pub known_push : (notes more : List Note) (h : List Entry) → Known notes h → Known (notes ++ more) h
known_push notes more h known t e = by (known t e)
  where
    by : (t < mark_of notes) ⊎ (is_noted t notes ≡ true) → (t < mark_of (notes ++ more)) ⊎ (is_noted t (notes ++ more) ≡ true)
    by (inl lt) = let m : mark_of notes ≤ mark_of (notes ++ more) = marks_more notes more in inl (omega (arith, lt))
    by (inr there) = inr (noted_push t notes more ∙ ap (λ b. b || is_noted t more) there)

-- the history is longer

abbrev pub Grows : List Entry → List Entry → Type 0
Grows h n = (t : ℕ) → has_ticket t h ≡ true → has_ticket t n ≡ true

-- what is pending is on fewer tables
abbrev pub Fewer : List Entry → List Sealed → List Entry → List Sealed → Type 0
Fewer h log n later = (tables : List TableId) → all_off tables (pending h log) ≡ true → all_off tables (pending n later) ≡ true

differ : {P : Type 0} (b : Bool) → b ≡ true → b ≡ false → P
differ b x y = cc

none_left : (n : List Entry) (s : Sealed) → has_ticket s.ticket.0 n ≡ true → pending n (s ∷ []) ≡ []
none_left n s e = ap (λ b. cond (not b) (s ∷ []) []) e

told_fewer : (h n : List Entry) (grows : Grows h n) (x : Note) (tables : List TableId) → all_off tables (pending h (told h x)) ≡ true → all_off tables (pending n (told n x)) ≡ true
told_fewer h n grows (Commit s) tables off = by (has_ticket s.ticket.0 n) refl (has_ticket s.ticket.0 h) refl off
  where
    by : (b : Bool) → has_ticket s.ticket.0 n ≡ b → (a : Bool) → has_ticket s.ticket.0 h ≡ a → all_off tables (cond (not a) (s ∷ []) []) ≡ true → all_off tables (cond (not b) (s ∷ []) []) ≡ true
    by true e a f o = refl
    by false e true f o = differ (has_ticket s.ticket.0 n) (grows s.ticket.0 f) e
    by false e false f o = o
told_fewer h n grows (Prepare s) tables off = by (has_ticket s.ticket.0 n) refl
  where
    by : (b : Bool) → has_ticket s.ticket.0 n ≡ b → all_off tables (pending n (if_stands b s)) ≡ true
    by true e = ap (all_off tables) (none_left n s e)
    by false e = refl
told_fewer h n grows (Number t) tables off = by (found t n) refl
  where
    by : (o : Option Sealed) → found t n ≡ o → all_off tables (pending n (only_found o)) ≡ true
    by None e = refl
    by (Some x) e = let r = found_there t n x e in ap (all_off tables) (none_left n x (ap (λ m. has_ticket m n) r.0 ∙ r.1))
told_fewer h n grows (Mark m) tables off = refl
told_fewer h n grows (Define name ts) tables off = refl
told_fewer h n grows (Drop name) tables off = refl
told_fewer h n grows (Flag name flag) tables off = refl

fewer_push : (h n : List Entry) (grows : Grows h n) (log later : List Sealed) (x : Note) → Fewer h log n later → Fewer h (log ++ told h x) n (later ++ told n x)
fewer_push h n grows log later x fewer tables off =
    let test = λ (s : Sealed). are_off tables s.ops in
    let was : (all_off tables (pending h log) && all_off tables (pending h (told h x))) ≡ true = sym (list_all-append test (pending h log) (pending h (told h x))) ∙ ap (all_off tables) (sym (filter-append (is_pending h) log (told h x))) ∙ off in
    let (first, rest) = both_true (all_off tables (pending h log)) (all_off tables (pending h (told h x))) was in
    ap (all_off tables) (filter-append (is_pending n) later (told n x)) ∙ list_all-append test (pending n later) (pending n (told n x)) ∙ (λ i. fewer tables first i && told_fewer h n grows x tables rest i)

fit_step : (h n : List Entry) (c : Catalog) (log later : List Sealed) (x : Note) → Fewer h log n later → Fits h c log x → Fits n c later x
fit_step h n c log later (Commit s) fewer fits = fits
fit_step h n c log later (Prepare s) fewer fits = fits
fit_step h n c log later (Number t) fewer fits = fits
fit_step h n c log later (Mark m) fewer fits = tt
fit_step h n c log later (Define name tables) fewer fits = fits
fit_step h n c log later (Drop name) fewer fits = (fits.0, fewer (fits.0).one.group.tables fits.1)
fit_step h n c log later (Flag name flag) fewer fits = tt

pub fits_later : (h n : List Entry) (grows : Grows h n) (c : Catalog) (log later : List Sealed) (notes : List Note) → Fewer h log n later → FitAll h c log notes → FitAll n c later notes
fits_later h n grows c log later [] fewer fits = tt
fits_later h n grows c log later (x ∷ notes) fewer fits =
    (fit_step h n c log later x fewer fits.0, fits_later h n grows (recall x c) (log ++ told h x) (later ++ told n x) notes (fewer_push h n grows log later x fewer) fits.1)

pub grown : (h more : List Entry) → Grows h (h ++ more)
grown h more t e = has_ticket-append t h more ∙ ap (λ b. b || has_ticket t more) e

-- no prepare or number has the ticket
abbrev pub IsFree : ℕ → List Note → Type 0
IsFree t [] = Unit {0}
IsFree t (Commit s ∷ notes) = IsFree t notes
IsFree t (Prepare s ∷ notes) = (s.ticket.0 ≡ t → ⊥) × IsFree t notes
IsFree t (Number n ∷ notes) = (n ≡ t → ⊥) × IsFree t notes
IsFree t (Mark n ∷ notes) = IsFree t notes
IsFree t (Define name tables ∷ notes) = IsFree t notes
IsFree t (Drop name ∷ notes) = IsFree t notes
IsFree t (Flag name flag ∷ notes) = IsFree t notes

-- lower than all entries that follow
pub free_above : (h : List Entry) (c : Catalog) (log : List Sealed) (notes : List Note) (t : ℕ) → FitAll h c log notes → t < c.next → IsFree t notes
free_above h c log [] t fits lt = tt
free_above h c log (Commit s ∷ notes) t fits lt = let a : c.next ≤ s.ticket.0 = (fits.0).0 in free_above h (recall (Commit s) c) (log ++ told h (Commit s)) notes t fits.1 (omega (arith, lt))
free_above h c log (Prepare s ∷ notes) t fits lt = let a : c.next ≤ s.ticket.0 = (fits.0).0 in (λ e. omega (arith, lt), free_above h (recall (Prepare s) c) (log ++ told h (Prepare s)) notes t fits.1 (omega (arith, lt)))
free_above h c log (Number n ∷ notes) t fits lt = let a : c.next ≤ n = fits.0 in (λ e. omega (arith, lt), free_above h (recall (Number n) c) (log ++ told h (Number n)) notes t fits.1 (omega (arith, lt)))
free_above h c log (Mark n ∷ notes) t fits lt = free_above h c (log ++ []) notes t fits.1 lt
free_above h c log (Define name tables ∷ notes) t fits lt = free_above h (recall (Define name tables) c) (log ++ []) notes t fits.1 lt
free_above h c log (Drop name ∷ notes) t fits lt = free_above h (recall (Drop name) c) (log ++ []) notes t fits.1 lt
free_above h c log (Flag name flag ∷ notes) t fits lt = free_above h (recall (Flag name flag) c) (log ++ []) notes t fits.1 lt

-- above all of these entries
pub free_below : (h : List Entry) (c : Catalog) (log : List Sealed) (notes : List Note) (t : ℕ) → FitAll h c log notes → (recall_all notes c).next ≤ t → IsFree t notes
free_below h c log [] t fits le = tt
free_below h c log (Commit s ∷ notes) t fits le = free_below h (recall (Commit s) c) (log ++ told h (Commit s)) notes t fits.1 le
free_below h c log (Prepare s ∷ notes) t fits le =
    let a : s.ticket.0 + 1 ≤ (recall_all notes (recall (Prepare s) c)).next = next_grows h (recall (Prepare s) c) (log ++ told h (Prepare s)) notes fits.1 in
    (λ e. omega (arith, le), free_below h (recall (Prepare s) c) (log ++ told h (Prepare s)) notes t fits.1 le)
free_below h c log (Number n ∷ notes) t fits le =
    let a : n + 1 ≤ (recall_all notes (recall (Number n) c)).next = next_grows h (recall (Number n) c) (log ++ told h (Number n)) notes fits.1 in
    (λ e. omega (arith, le), free_below h (recall (Number n) c) (log ++ told h (Number n)) notes t fits.1 le)
free_below h c log (Mark n ∷ notes) t fits le = free_below h c (log ++ []) notes t fits.1 le
free_below h c log (Define name tables ∷ notes) t fits le = free_below h (recall (Define name tables) c) (log ++ []) notes t fits.1 le
free_below h c log (Drop name ∷ notes) t fits le = free_below h (recall (Drop name) c) (log ++ []) notes t fits.1 le
free_below h c log (Flag name flag ∷ notes) t fits le = free_below h (recall (Flag name flag) c) (log ++ []) notes t fits.1 le

-- what is told stays with an entry of a free ticket, and with one of none

-- tickets other than this are as before
pub record Beside (t : ℕ) (h n : List Entry) : Type 0 where
  pub stands : (u : ℕ) → (u ≡ t → ⊥) → has_ticket u n ≡ has_ticket u h
  pub finds : (u : ℕ) → (u ≡ t → ⊥) → found u n ≡ found u h

pub steady : (t : ℕ) (h n : List Entry) (notes : List Note) → Beside t h n → IsFree t notes → log_in n notes ≡ log_in h notes
steady t h n [] same free = refl
steady t h n (Commit s ∷ notes) same free = ap (λ l. s ∷ l) (steady t h n notes same free)
steady t h n (Prepare s ∷ notes) same free = let e = same.stands s.ticket.0 free.0 in let more = steady t h n notes same free.1 in λ i. if_stands (e i) s ++ more i
steady t h n (Number u ∷ notes) same free = let e = same.finds u free.0 in let more = steady t h n notes same free.1 in λ i. only_found (e i) ++ more i
steady t h n (Mark m ∷ notes) same free = steady t h n notes same free
steady t h n (Define name tables ∷ notes) same free = steady t h n notes same free
steady t h n (Drop name ∷ notes) same free = steady t h n notes same free
steady t h n (Flag name flag ∷ notes) same free = steady t h n notes same free

or_false : (b : Bool) → (b || false) ≡ b
or_false true = refl
or_false false = refl

eq_other : (a b : ℕ) → (a ≡ b → ⊥) → nat_eq a b ≡ false
eq_other a b no_one = by (nat_eq a b) refl
  where
    by : (c : Bool) → nat_eq a b ≡ c → c ≡ false
    by true e = absurd (no_one (eqb-true a b e))
    by false e = refl

found_own : (u : ℕ) (h : List Entry) (s : Sealed) → (u ≡ s.ticket.0 → ⊥) → found u (h ++ entry_of s ∷ []) ≡ found u h
found_own u [] s other = ap (λ b. cond b (Some s) None) (eq_other s.ticket.0 u (λ e. other (sym e)))
found_own u (Definition def ∷ h) s other = found_own u h s other
found_own u (Foreign os ∷ h) s other = found_own u h s other
found_own u (Own own os ∷ h) s other = ap (λ o. cond (nat_eq own.0 u) (Some (record { ticket = own; ops = os })) o) (found_own u h s other)

pub beside_own : (h : List Entry) (s : Sealed) → Beside s.ticket.0 h (h ++ entry_of s ∷ [])
beside_own h s = record {
  stands = λ u other. has_ticket-append u h (entry_of s ∷ []) ∙ ap (λ b. has_ticket u h || (b || false)) (eq_other s.ticket.0 u (λ e. other (sym e))) ∙ or_false (has_ticket u h);
  finds = λ u other. found_own u h s other;
}

-- an entry of others', or a definition
abbrev pub IsQuiet : Entry → Type 0
IsQuiet (Foreign ops) = Unit {0}
IsQuiet (Definition def) = Unit {0}
IsQuiet (Own ticket ops) = ⊥

found_quiet : (u : ℕ) (h : List Entry) (e : Entry) → IsQuiet e → found u (h ++ e ∷ []) ≡ found u h
found_quiet u [] (Foreign ops) quiet = refl
found_quiet u [] (Definition def) quiet = refl
found_quiet u [] (Own own ops) quiet = absurd quiet
found_quiet u (Definition def ∷ h) e quiet = found_quiet u h e quiet
found_quiet u (Foreign os ∷ h) e quiet = found_quiet u h e quiet
found_quiet u (Own own os ∷ h) e quiet = ap (λ o. cond (nat_eq own.0 u) (Some (record { ticket = own; ops = os })) o) (found_quiet u h e quiet)

quiet_none : (u : ℕ) (e : Entry) → IsQuiet e → has_ticket u (e ∷ []) ≡ false
quiet_none u (Foreign ops) quiet = refl
quiet_none u (Definition def) quiet = refl
quiet_none u (Own own ops) quiet = absurd quiet

pub quiet_same : (u : ℕ) (h : List Entry) (e : Entry) → IsQuiet e → has_ticket u (h ++ e ∷ []) ≡ has_ticket u h
quiet_same u h e quiet = has_ticket-append u h (e ∷ []) ∙ ap (λ b. has_ticket u h || b) (quiet_none u e quiet) ∙ or_false (has_ticket u h)

pub beside_quiet : (t : ℕ) (h : List Entry) (e : Entry) → IsQuiet e → Beside t h (h ++ e ∷ [])
beside_quiet t h e quiet = record { stands = λ u other. quiet_same u h e quiet; finds = λ u other. found_quiet u h e quiet }

pub steady_quiet : (h : List Entry) (e : Entry) (notes : List Note) → IsQuiet e → log_in (h ++ e ∷ []) notes ≡ log_in h notes
steady_quiet h e [] quiet = refl
steady_quiet h e (Commit s ∷ notes) quiet = ap (λ l. s ∷ l) (steady_quiet h e notes quiet)
steady_quiet h e (Prepare s ∷ notes) quiet = let x = quiet_same s.ticket.0 h e quiet in let more = steady_quiet h e notes quiet in λ i. if_stands (x i) s ++ more i
steady_quiet h e (Number u ∷ notes) quiet = let x = found_quiet u h e quiet in let more = steady_quiet h e notes quiet in λ i. only_found (x i) ++ more i
steady_quiet h e (Mark m ∷ notes) quiet = steady_quiet h e notes quiet
steady_quiet h e (Define name tables ∷ notes) quiet = steady_quiet h e notes quiet
steady_quiet h e (Drop name ∷ notes) quiet = steady_quiet h e notes quiet
steady_quiet h e (Flag name flag ∷ notes) quiet = steady_quiet h e notes quiet

-- what is pending are commits

pub pending_commits : (h : List Entry) (notes : List Note) → pending h (log_in h notes) ≡ pending h (commits_in notes)
pending_commits h [] = refl
pending_commits h (Commit s ∷ notes) = let more = pending_commits h notes in λ i. cond (not (has_ticket s.ticket.0 h)) (s ∷ more i) (more i)
pending_commits h (Prepare s ∷ notes) = by (has_ticket s.ticket.0 h) refl (pending_commits h notes)
  where
    by : (b : Bool) → has_ticket s.ticket.0 h ≡ b → pending h (log_in h notes) ≡ pending h (commits_in notes) → pending h (if_stands b s ++ log_in h notes) ≡ pending h (commits_in notes)
    by true e more = ap (λ b. cond (not b) (s ∷ pending h (log_in h notes)) (pending h (log_in h notes))) e ∙ more
    by false e more = more
pending_commits h (Number t ∷ notes) = by (found t h) refl (pending_commits h notes)
  where
    by : (o : Option Sealed) → found t h ≡ o → pending h (log_in h notes) ≡ pending h (commits_in notes) → pending h (only_found o ++ log_in h notes) ≡ pending h (commits_in notes)
    by None e more = more
    by (Some x) e more = let r = found_there t h x e in ap (λ b. cond (not b) (x ∷ pending h (log_in h notes)) (pending h (log_in h notes))) (ap (λ m. has_ticket m h) r.0 ∙ r.1) ∙ more
pending_commits h (Mark n ∷ notes) = pending_commits h notes
pending_commits h (Define name tables ∷ notes) = pending_commits h notes
pending_commits h (Drop name ∷ notes) = pending_commits h notes
pending_commits h (Flag name flag ∷ notes) = pending_commits h notes

-- a commit of the entries has a lowest ticket
commits_least : (h : List Entry) (c : Catalog) (log : List Sealed) (notes : List Note) (before : List Sealed) (s : Sealed) (behind : List Sealed) → FitAll h c log notes → commits_in notes ≡ before ++ s ∷ behind → c.next ≤ s.ticket.0
commits_least h c log [] [] s behind fits e = cc
commits_least h c log [] (b ∷ before) s behind fits e = cc
commits_least h c log (Commit x ∷ notes) [] s behind fits e = let same : x ≡ s = cc in subst (λ (y : Sealed). c.next ≤ y.ticket.0) same (fits.0).0
commits_least h c log (Commit x ∷ notes) (b ∷ before) s behind fits e = let a : c.next ≤ x.ticket.0 = (fits.0).0 in let r : x.ticket.0 + 1 ≤ s.ticket.0 = commits_least h (recall (Commit x) c) (log ++ told h (Commit x)) notes before s behind fits.1 cc in omega arith
commits_least h c log (Prepare x ∷ notes) before s behind fits e = let a : c.next ≤ x.ticket.0 = (fits.0).0 in let r : x.ticket.0 + 1 ≤ s.ticket.0 = commits_least h (recall (Prepare x) c) (log ++ told h (Prepare x)) notes before s behind fits.1 e in omega arith
commits_least h c log (Number t ∷ notes) before s behind fits e = let a : c.next ≤ t = fits.0 in let r : t + 1 ≤ s.ticket.0 = commits_least h (recall (Number t) c) (log ++ told h (Number t)) notes before s behind fits.1 e in omega arith
commits_least h c log (Mark n ∷ notes) before s behind fits e = commits_least h c (log ++ []) notes before s behind fits.1 e
commits_least h c log (Define name tables ∷ notes) before s behind fits e = commits_least h (recall (Define name tables) c) (log ++ []) notes before s behind fits.1 e
commits_least h c log (Drop name ∷ notes) before s behind fits e = commits_least h (recall (Drop name) c) (log ++ []) notes before s behind fits.1 e
commits_least h c log (Flag name flag ∷ notes) before s behind fits e = commits_least h (recall (Flag name flag) c) (log ++ []) notes before s behind fits.1 e

-- no prepare or number has its ticket
pub free_commit : (h : List Entry) (c : Catalog) (log : List Sealed) (notes : List Note) (before : List Sealed) (s : Sealed) (behind : List Sealed) → FitAll h c log notes → commits_in notes ≡ before ++ s ∷ behind → IsFree s.ticket.0 notes
free_commit h c log [] before s behind fits e = tt
free_commit h c log (Commit x ∷ notes) [] s behind fits e =
    let same : x ≡ s = cc in
    subst (λ (y : Sealed). IsFree y.ticket.0 notes) same (free_above h (recall (Commit x) c) (log ++ told h (Commit x)) notes x.ticket.0 fits.1 (omega arith))
free_commit h c log (Commit x ∷ notes) (b ∷ before) s behind fits e = free_commit h (recall (Commit x) c) (log ++ told h (Commit x)) notes before s behind fits.1 cc
free_commit h c log (Prepare x ∷ notes) before s behind fits e =
    let r : x.ticket.0 + 1 ≤ s.ticket.0 = commits_least h (recall (Prepare x) c) (log ++ told h (Prepare x)) notes before s behind fits.1 e in
    (λ f. omega arith, free_commit h (recall (Prepare x) c) (log ++ told h (Prepare x)) notes before s behind fits.1 e)
free_commit h c log (Number t ∷ notes) before s behind fits e =
    let r : t + 1 ≤ s.ticket.0 = commits_least h (recall (Number t) c) (log ++ told h (Number t)) notes before s behind fits.1 e in
    (λ f. omega arith, free_commit h (recall (Number t) c) (log ++ told h (Number t)) notes before s behind fits.1 e)
free_commit h c log (Mark n ∷ notes) before s behind fits e = free_commit h c (log ++ []) notes before s behind fits.1 e
free_commit h c log (Define name tables ∷ notes) before s behind fits e = free_commit h (recall (Define name tables) c) (log ++ []) notes before s behind fits.1 e
free_commit h c log (Drop name ∷ notes) before s behind fits e = free_commit h (recall (Drop name) c) (log ++ []) notes before s behind fits.1 e
free_commit h c log (Flag name flag ∷ notes) before s behind fits e = free_commit h (recall (Flag name flag) c) (log ++ []) notes before s behind fits.1 e
