-- Each event keeps that the entries and the history match.
use Rattle.std.proofs.Common.{◌≡◌, ◌⊎◌, inl, inr, ℕ, ◌+◌, ◌≤◌, ◌<◌, List, [], ◌∷◌, ◌++◌, map, Bool, true, false, ◌||◌, ◌&&◌, not, cond, nat_eq, nat_le, Some, None, refl, sym, ◌∙◌, ap, subst, arith, append_assoc, append-nil, eqb-true, eq-eqb}
use Rattle.std.specs.List.{filter, list_any}
use Rattle.std.proofs.Math.Nat.{le-max_right}
use Rattle.std.proofs.lemmas.Bool.{leb-true}
use Rattle.std.proofs.lemmas.List.Elements.{filter-append}
use Rattle.order_laws.specs.tier_base.specs.declared.number.TableId.{TableId}
use Rattle.order_laws.specs.table_defs.specs.declared.definition.TableDef.{TableDef}
use Rattle.order_laws.specs.table_state.specs.declared.history.Entry.{Entry}
use Rattle.order_laws.specs.table_state.specs.declared.history.Entry.TheVariants.{Definition, Foreign, Own}
use Rattle.order_laws.specs.table_state.specs.declared.history.Sealed.{Sealed}
use Rattle.order_laws.specs.table_state.specs.declared.operation.Op.{Op}
use Rattle.order_laws.specs.table_state.specs.Tables.{TableState}
use Rattle.order_laws.specs.table_state.specs.Histories.{entry_of, has_ticket, state_of}
use Rattle.order_laws.specs.table_state.specs.Operations.{applied_all}
use Rattle.order_laws.specs.table_state.proofs.HistoryLaws.{has_ticket-append}
use Rattle.order_laws.specs.Commits.{IsInLog, LiveGroup, MayCome, RiseBetween, conflicting, in_order, is_op_on, is_pending, of_group, pending}
use Rattle.order_laws.specs.Sides.{IsClosed, are_off, are_on}
use Rattle.order_laws.specs.Standing.{AreClosed, PendingIsLive, Stand, all_off, live_tables, progress_of}
use Rattle.order_laws.specs.Commits.{NoneConflicts}
use Rattle.order_laws.proofs.WholeLaws.{stand_at_once, stand_commits, stand_comes, stand_dropped, stand_group, stand_loses, stand_others, stand_table}
use Rattle.recovery_laws.specs.Notes.{Catalog, Commit, Define, Drop, Fits, Flag, IsNamed, Mark, Note, Number, Prepare, are_apart, catalog_of, commits_in, empty_catalog, found, groups_of, if_stands, is_for, is_noted, live_groups, log_in, mark_of, next_of, only_found, recall, told}
use Rattle.recovery_laws.specs.Matching.{HaveOrder, IsMatched}
use Rattle.recovery_laws.specs.Crashes.{NoneThere}
use Rattle.recovery_laws.proofs.FoldLaws.{fold_rise}
use Rattle.recovery_laws.proofs.GoodLaws.{flags_keep, groups_append}
use Rattle.recovery_laws.proofs.MatchLaws.{good_of, matched_stands, no_later, stands_matched}
use Rattle.recovery_laws.proofs.PushLaws.{IsQuiet, beside_own, fits_front, fits_later, fits_push, free_below, free_commit, grown, known_push, log_push, mark_commits, noted_push, pending_commits, quiet_same, recall_push, steady, steady_quiet}

or_true : (b : Bool) → (b || true) ≡ true
or_true true = refl
or_true false = refl

pub moved : (groups other : List LiveGroup) (h : List Entry) (log later : List Sealed) (next : ℕ) → other ≡ groups → later ≡ log → Stand (progress_of groups h log next) → Stand (progress_of other h later next)
moved groups other h log later next e f stand = subst (λ (gs : List LiveGroup). Stand (progress_of gs h later next)) (sym e) (subst (λ (l : List Sealed). Stand (progress_of groups h l next)) (sym f) stand)

-- the catalog's next is at most the next ticket
last_le : (notes : List Note) → (catalog_of notes).next ≤ next_of notes
last_le notes = le-max_right (mark_of notes) (catalog_of notes).next

pub groups_push : (notes : List Note) (x : Note) → groups_of (notes ++ x ∷ []) ≡ live_groups (recall x (catalog_of notes)).groups
groups_push notes x = ap (λ (c : Catalog). live_groups c.groups) (recall_push notes (x ∷ []) empty_catalog)

pub log_one : (h : List Entry) (notes : List Note) (x : Note) (xs : List Sealed) → told h x ≡ xs → log_in h (notes ++ x ∷ []) ≡ log_in h notes ++ xs
log_one h notes x xs e = log_push h notes (x ∷ []) ∙ ap (λ l. log_in h notes ++ l) (append-nil (told h x) ∙ e)

-- an entry more over the same history
pub noted : (notes : List Note) (h : List Entry) (x : Note) (next : ℕ) → IsMatched notes h → Fits h (catalog_of notes) (log_in h notes) x → Stand (progress_of (groups_of (notes ++ x ∷ [])) h (log_in h (notes ++ x ∷ [])) next) → IsMatched (notes ++ x ∷ []) h
noted notes h x next m fits stand = stands_matched (notes ++ x ∷ []) h next (fits_push h empty_catalog [] notes (x ∷ []) m.fits (fits, tt)) (known_push notes (x ∷ []) h m.known) stand

-- a transaction commits
pub noted_commit : (notes : List Note) (h : List Entry) (s : Sealed) (v : TableState) → (m : IsMatched notes h) → next_of notes ≤ s.ticket.0 → applied_all s.ops m.virtual ≡ Some v → are_on (live_tables (groups_of notes)) s.ops ≡ true
    → IsMatched (notes ++ Commit s ∷ []) h
noted_commit notes h s v m le is on =
    let now = (stand_commits (groups_of notes) h (log_in h notes) (next_of notes) (matched_stands notes h m) s v le is on).0 in
    let l = last_le notes in
    noted notes h (Commit s) (s.ticket.0 + 1) m (omega (arith, le, l), on) (moved (groups_of notes) (groups_of (notes ++ Commit s ∷ [])) h (log_in h notes ++ s ∷ []) (log_in h (notes ++ Commit s ∷ [])) (s.ticket.0 + 1) (groups_push notes (Commit s)) (log_one h notes (Commit s) (s ∷ []) refl) now)

-- an entry that tells of nothing yet
quiet_note : (notes : List Note) (h : List Entry) (x : Note) → (m : IsMatched notes h) → Fits h (catalog_of notes) (log_in h notes) x → told h x ≡ [] → live_groups (recall x (catalog_of notes)).groups ≡ groups_of notes → IsMatched (notes ++ x ∷ []) h
quiet_note notes h x m fits none same =
    noted notes h x (next_of notes) m fits
    (moved (groups_of notes) (groups_of (notes ++ x ∷ [])) h (log_in h notes) (log_in h (notes ++ x ∷ [])) (next_of notes) (groups_push notes x ∙ same) (log_one h notes x [] none ∙ append-nil (log_in h notes)) (matched_stands notes h m))

-- a synchronous transaction is prepared
pub noted_prepare : (notes : List Note) (h : List Entry) (s : Sealed) → (m : IsMatched notes h) → next_of notes ≤ s.ticket.0 → are_on (live_tables (groups_of notes)) s.ops ≡ true → IsMatched (notes ++ Prepare s ∷ []) h
noted_prepare notes h s m le on = let l = last_le notes in quiet_note notes h (Prepare s) m (omega (arith, le, l), on) (ap (λ b. if_stands b s) (no_later h notes m.fits m.known s.ticket.0 le)) refl

-- the ticket isn't found
pub found_none : (t : ℕ) (h : List Entry) → has_ticket t h ≡ false → found t h ≡ None
found_none t [] e = refl
found_none t (Definition def ∷ h) e = found_none t h e
found_none t (Foreign ops ∷ h) e = found_none t h e
found_none t (Own own ops ∷ h) e = by (nat_eq own.0 t) e (found_none t h)
  where
    by : (b : Bool) → (b || has_ticket t h) ≡ false → (has_ticket t h ≡ false → found t h ≡ None) → cond b (Some (record { ticket = own; ops = ops })) (found t h) ≡ None
    by true e more = cc
    by false e more = more e

-- a write is passed on with this number
pub noted_number : (notes : List Note) (h : List Entry) (t : ℕ) → (m : IsMatched notes h) → next_of notes ≤ t → IsMatched (notes ++ Number t ∷ []) h
noted_number notes h t m le = let l = last_le notes in quiet_note notes h (Number t) m (omega (arith, le, l)) (ap only_found (found_none t h (no_later h notes m.fits m.known t le))) refl

-- a STATE or a flag
pub noted_flag : (notes : List Note) (h : List Entry) (name : List ℕ) (flag : ℕ) → (m : IsMatched notes h) → IsMatched (notes ++ Flag name flag ∷ []) h
noted_flag notes h name flag m = quiet_note notes h (Flag name flag) m tt refl (flags_keep name flag (catalog_of notes).groups)

-- a group is dropped, on whose tables nothing is pending
pub noted_drop : (notes : List Note) (h : List Entry) (name : List ℕ) → (m : IsMatched notes h) → (g : IsNamed (catalog_of notes).groups name) → all_off g.one.group.tables (pending h (log_in h notes)) ≡ true → IsMatched (notes ++ Drop name ∷ []) h
noted_drop notes h name m g off =
    let was : groups_of notes ≡ live_groups g.before ++ g.one.group ∷ live_groups g.behind = ap live_groups g.is ∙ groups_append g.before (g.one ∷ g.behind) in
    let now : groups_of (notes ++ Drop name ∷ []) ≡ live_groups g.before ++ live_groups g.behind = groups_push notes (Drop name) ∙ ap live_groups g.left ∙ groups_append g.before g.behind in
    let good = good_of (notes ++ Drop name ∷ []) h (fits_push h empty_catalog [] notes (Drop name ∷ []) m.fits ((g, off), tt)) in
    let same : log_in h (notes ++ Drop name ∷ []) ≡ log_in h notes = log_one h notes (Drop name) [] refl ∙ append-nil (log_in h notes) in
    let live : PendingIsLive (live_groups g.before ++ live_groups g.behind) h (log_in h notes) = subst (λ (gs : List LiveGroup). PendingIsLive gs h (log_in h notes)) now (subst (λ (l : List Sealed). PendingIsLive (groups_of (notes ++ Drop name ∷ [])) h l) same good.live) in
    let stand = stand_dropped (live_groups g.before) g.one.group (live_groups g.behind) h (log_in h notes) (next_of notes) (subst (λ (gs : List LiveGroup). Stand (progress_of gs h (log_in h notes) (next_of notes))) was (matched_stands notes h m)) live in
    noted notes h (Drop name) (next_of notes) m (g, off) (moved (live_groups g.before ++ live_groups g.behind) (groups_of (notes ++ Drop name ∷ [])) h (log_in h notes) (log_in h (notes ++ Drop name ∷ [])) (next_of notes) now same stand)

-- a group is defined over tables that nothing pending writes

none_of_group : (g : LiveGroup) (low : ℕ) (log : List Sealed) (high : ℕ) → RiseBetween low log high → high ≤ g.first → of_group g log ≡ []
none_of_group g low [] high rise le = refl
none_of_group g low (s ∷ log) high rise le =
    let more : s.ticket.0 + 1 ≤ high = top (s.ticket.0 + 1) log high rise.1 in
    by (nat_le g.first s.ticket.0) (λ e. let first : g.first ≤ s.ticket.0 = leb-true g.first s.ticket.0 e in omega (arith, le)) (none_of_group g (s.ticket.0 + 1) log high rise.1 le)
  where
    top : (low : ℕ) (log : List Sealed) (high : ℕ) → RiseBetween low log high → low ≤ high
    top low [] high rise = rise
    top low (x ∷ log) high rise = let a : low ≤ x.ticket.0 = rise.0 in let b : x.ticket.0 + 1 ≤ high = top (x.ticket.0 + 1) log high rise.1 in omega arith

    by : (b : Bool) → (b ≡ true → ⊥) → of_group g log ≡ [] → cond (b && list_any (is_op_on g.tables) s.ops) (s ∷ of_group g log) (of_group g log) ≡ []
    by true no_one more = absurd (no_one refl)
    by false no_one more = more

-- another first ticket, where the transactions have lower ones
order_as : (g k : LiveGroup) (h : List Entry) (log : List Sealed) → g.tables ≡ k.tables → of_group g log ≡ of_group k log → in_order g h log ≡ in_order k h log
order_as g k h log e f = λ i. state_of (map (Rattle.order_laws.specs.Commits.entry_on (e i)) (filter (Rattle.order_laws.specs.Commits.is_other (f i)) h ++ map entry_of (f i)))

pub noted_define : (notes : List Note) (h : List Entry) (name : List ℕ) (tables : List TableId) → (m : IsMatched notes h) → are_apart (live_tables (groups_of notes)) tables ≡ true → IsClosed tables m.backing.schema
    → all_off tables (pending h (log_in h notes)) ≡ true → IsMatched (notes ++ Define name tables ∷ []) h
noted_define notes h name tables m apart closed off =
    let g : LiveGroup = record { tables = tables; first = next_of notes } in
    let k : LiveGroup = record { tables = tables; first = (catalog_of notes).next } in
    let stand = stand_group (groups_of notes) h (log_in h notes) (next_of notes) (matched_stands notes h m) g closed refl off in
    let rise : RiseBetween 1 (log_in h notes) (catalog_of notes).next = fold_rise h empty_catalog [] notes m.fits in
    let same : in_order k h (log_in h notes) ≡ in_order g h (log_in h notes) =
    order_as k g h (log_in h notes) refl (none_of_group k 1 (log_in h notes) (catalog_of notes).next rise (omega arith) ∙ sym (none_of_group g 1 (log_in h notes) (catalog_of notes).next rise (last_le notes)))
    in
    let groups : groups_of (notes ++ Define name tables ∷ []) ≡ k ∷ groups_of notes = groups_push notes (Define name tables) in
    let log : log_in h (notes ++ Define name tables ∷ []) ≡ log_in h notes = log_one h notes (Define name tables) [] refl ∙ append-nil (log_in h notes) in
    record {
      fits = fits_push h empty_catalog [] notes (Define name tables ∷ []) m.fits (apart, tt);
      known = known_push notes (Define name tables ∷ []) h m.known;
      backing = m.backing;
      leaves = m.leaves;
      virtual = m.virtual;
      virtual_is = subst (λ (l : List Sealed). Rattle.order_laws.specs.Commits.virtual_state h l ≡ Some m.virtual) (sym log) m.virtual_is;
      legal = subst (λ (l : List Sealed). Rattle.order_laws.specs.Commits.IsLegal (conflicting m.backing.schema) h l) (sym log) m.legal;
      ordered = subst (λ (gs : List LiveGroup). HaveOrder gs h (log_in h (notes ++ Define name tables ∷ []))) (sym groups) (subst (λ (l : List Sealed). HaveOrder (k ∷ groups_of notes) h l) (sym log) (((stand.over.ordered.0).state, same ∙ (stand.over.ordered.0).ordered), m.ordered));
      closed = subst (λ (gs : List LiveGroup). AreClosed gs m.backing.schema) (sym groups) (closed, m.closed);
      tables = subst (λ (l : List Sealed). Rattle.order_laws.specs.Standing.AreOnDefined m.backing.schema l) (sym log) m.tables;
    }

-- a pending transaction comes

-- where a filter kept something: what stood before it and behind it
record Split {X : Type 0} (p : X → Bool) (xs pre : List X) (s : X) : Type 0 where
  before : List X
  after : List X
  is : xs ≡ before ++ s ∷ after

split_filter : {X : Type 0} (p : X → Bool) (xs pre : List X) (s : X) (post : List X) → filter p xs ≡ pre ++ s ∷ post → Split p xs pre s
split_filter p [] [] s post e = cc
split_filter p [] (x ∷ pre) s post e = cc
split_filter p (x ∷ xs) pre s post e = by (p x) refl e (λ rest. split_filter p xs rest s post)
  where
    by : (b : Bool) → p x ≡ b → cond b (x ∷ filter p xs) (filter p xs) ≡ pre ++ s ∷ post → ((rest : List _) → filter p xs ≡ rest ++ s ∷ post → Split p xs rest s) → Split p (x ∷ xs) pre s
    by false fails_it e more = let r = more pre e in record { before = x ∷ r.before; after = r.after; is = ap (λ l. x ∷ l) r.is }
    by true holds_it e more = first pre e
      where
        first : (pre : List _) → x ∷ filter p xs ≡ pre ++ s ∷ post → Split p (x ∷ xs) pre s
        first [] e = let same : x ≡ s = cc in record { before = []; after = xs; is = ap (λ y. y ∷ xs) same }
        first (q ∷ rest) e = let r = more rest cc in record { before = x ∷ r.before; after = r.after; is = ap (λ l. x ∷ l) r.is }

-- a commit of the entries is noted
noted_in : (notes : List Note) (before : List Sealed) (s : Sealed) (behind : List Sealed) → commits_in notes ≡ before ++ s ∷ behind → is_noted s.ticket.0 notes ≡ true
noted_in [] [] s behind e = cc
noted_in [] (b ∷ before) s behind e = cc
noted_in (Commit x ∷ notes) [] s behind e = let same : x ≡ s = cc in ap (λ b. b || is_noted s.ticket.0 notes) (ap (λ (y : Sealed). nat_eq y.ticket.0 s.ticket.0) same ∙ eq-eqb s.ticket.0 s.ticket.0 refl)
noted_in (Commit x ∷ notes) (b ∷ before) s behind e = ap (λ c. nat_eq x.ticket.0 s.ticket.0 || c) (noted_in notes before s behind cc) ∙ or_true (nat_eq x.ticket.0 s.ticket.0)
noted_in (Prepare x ∷ notes) before s behind e = ap (λ c. nat_eq x.ticket.0 s.ticket.0 || c) (noted_in notes before s behind e) ∙ or_true (nat_eq x.ticket.0 s.ticket.0)
noted_in (Number t ∷ notes) before s behind e = ap (λ c. nat_eq t s.ticket.0 || c) (noted_in notes before s behind e) ∙ or_true (nat_eq t s.ticket.0)
noted_in (Mark n ∷ notes) before s behind e = noted_in notes before s behind e
noted_in (Define name tables ∷ notes) before s behind e = noted_in notes before s behind e
noted_in (Drop name ∷ notes) before s behind e = noted_in notes before s behind e
noted_in (Flag name flag ∷ notes) before s behind e = noted_in notes before s behind e

-- where the pending one stands among the commits
commit_of : (notes : List Note) (h : List Entry) (s : Sealed) → IsInLog (log_in h notes) s → has_ticket s.ticket.0 h ≡ false → (x : List Sealed) × Split (is_pending h) (commits_in notes) x s
commit_of notes h s one fresh = (
  pending h one.before,
  split_filter (is_pending h) (commits_in notes) (pending h one.before) s (pending h one.behind)
      (sym (pending_commits h notes) ∙ ap (pending h) one.is ∙ filter-append (is_pending h) one.before (s ∷ one.behind) ∙ ap (λ b. pending h one.before ++ cond (not b) (s ∷ pending h one.behind) (pending h one.behind)) fresh),
)

-- the tickets of a history with one more
one_more : (h : List Entry) (s : Sealed) (t : ℕ) → has_ticket t (h ++ entry_of s ∷ []) ≡ true → (has_ticket t h ≡ true) ⊎ (s.ticket.0 ≡ t)
one_more h s t e = by (has_ticket t h) (nat_eq s.ticket.0 t) refl (sym (has_ticket-append t h (entry_of s ∷ [])) ∙ e)
  where
    by : (a b : Bool) → nat_eq s.ticket.0 t ≡ b → (a || (b || false)) ≡ true → (a ≡ true) ⊎ (s.ticket.0 ≡ t)
    by true b f e = inl refl
    by false true f e = inr (eqb-true s.ticket.0 t f)
    by false false f e = cc

-- what is told stays when one of its own comes
pub came_log : (notes : List Note) (h : List Entry) (s : Sealed) → (m : IsMatched notes h) → IsInLog (log_in h notes) s → has_ticket s.ticket.0 h ≡ false → log_in (h ++ entry_of s ∷ []) notes ≡ log_in h notes
came_log notes h s m one fresh =
    let x = (commit_of notes h s one fresh).1 in
    steady s.ticket.0 h (h ++ entry_of s ∷ []) notes (beside_own h s) (free_commit h empty_catalog [] notes x.before s x.after m.fits x.is)

pub comes : (notes : List Note) (h : List Entry) (s : Sealed) → (m : IsMatched notes h) → MayCome (conflicting m.backing.schema) h (log_in h notes) s → IsMatched notes (h ++ entry_of s ∷ [])
comes notes h s m may =
    let n = h ++ entry_of s ∷ [] in
    let x = (commit_of notes h s may.one may.fresh).1 in
    let free = free_commit h empty_catalog [] notes x.before s x.after m.fits x.is in
    let same : log_in n notes ≡ log_in h notes = steady s.ticket.0 h n notes (beside_own h s) free in
    let now = (stand_comes (groups_of notes) h (log_in h notes) (next_of notes) (matched_stands notes h m) s may).0 in
    stands_matched notes n (next_of notes) (fits_later h n (grown h (entry_of s ∷ [])) empty_catalog [] [] notes (λ tables off. off) m.fits) (λ t e. known t (one_more h s t e) x) (moved (groups_of notes) (groups_of notes) n (log_in h notes) (log_in n notes) (next_of notes) refl same now)
  where
    known : (t : ℕ) → (has_ticket t h ≡ true) ⊎ (s.ticket.0 ≡ t) → {pre : List Sealed} → Split (is_pending h) (commits_in notes) pre s → (t < mark_of notes) ⊎ (is_noted t notes ≡ true)
    known t (inl there) x = m.known t there
    known t (inr mine) x = inr (ap (λ u. is_noted u notes) (sym mine) ∙ noted_in notes x.before s x.after x.is)

-- what is prepared, or passed on, comes

here_now : (h : List Entry) (s : Sealed) → has_ticket s.ticket.0 (h ++ entry_of s ∷ []) ≡ true
here_now h s = has_ticket-append s.ticket.0 h (entry_of s ∷ []) ∙ ap (λ b. has_ticket s.ticket.0 h || (b || false)) (eq-eqb s.ticket.0 s.ticket.0 refl) ∙ or_true (has_ticket s.ticket.0 h)

pub found_now : (h : List Entry) (s : Sealed) → has_ticket s.ticket.0 h ≡ false → found s.ticket.0 (h ++ entry_of s ∷ []) ≡ Some s
found_now [] s none = ap (λ b. cond b (Some s) None) (eq-eqb s.ticket.0 s.ticket.0 refl)
found_now (Definition def ∷ h) s none = found_now h s none
found_now (Foreign ops ∷ h) s none = found_now h s none
found_now (Own own ops ∷ h) s none = by (nat_eq own.0 s.ticket.0) none (found_now h s)
  where
    by : (b : Bool) → (b || has_ticket s.ticket.0 h) ≡ false → (has_ticket s.ticket.0 h ≡ false → found s.ticket.0 (h ++ entry_of s ∷ []) ≡ Some s) → cond b (Some (record { ticket = own; ops = ops })) (found s.ticket.0 (h ++ entry_of s ∷ [])) ≡ Some s
    by true e more = cc
    by false e more = more e

-- the last entry tells of it once it stands
at_once_noted : (notes : List Note) (h : List Entry) (x : Note) (s : Sealed) (v : TableState) → (m : IsMatched notes h) → next_of notes ≤ s.ticket.0 → NoneConflicts m.backing.schema (pending h (log_in h notes)) s → applied_all s.ops m.virtual ≡ Some v
    → told (h ++ entry_of s ∷ []) x ≡ s ∷ [] → is_for s.ticket.0 x ≡ true → live_groups (recall x (catalog_of notes)).groups ≡ groups_of notes → Fits (h ++ entry_of s ∷ []) (catalog_of notes) (log_in (h ++ entry_of s ∷ []) notes) x
    → IsMatched (notes ++ x ∷ []) (h ++ entry_of s ∷ [])
at_once_noted notes h x s v m le none is tells mine groups fits =
    let n = h ++ entry_of s ∷ [] in
    let l = last_le notes in
    let free = free_below h empty_catalog [] notes s.ticket.0 m.fits (omega (arith, le, l)) in
    let same : log_in n notes ≡ log_in h notes = steady s.ticket.0 h n notes (beside_own h s) free in
    let now = (stand_at_once (groups_of notes) h (log_in h notes) (next_of notes) (matched_stands notes h m) s v le none is).0 in
    stands_matched (notes ++ x ∷ []) n (s.ticket.0 + 1) (fits_push n empty_catalog [] notes (x ∷ []) (fits_later h n (grown h (entry_of s ∷ [])) empty_catalog [] [] notes (λ tables off. off) m.fits) (fits, tt))
    (λ t e. known t (one_more h s t e)) (moved (groups_of notes) (groups_of (notes ++ x ∷ [])) n (log_in h notes ++ s ∷ []) (log_in n (notes ++ x ∷ [])) (s.ticket.0 + 1) (groups_push notes x ∙ groups) (log_one n notes x (s ∷ []) tells ∙ ap (λ l. l ++ s ∷ []) same) now)
  where
    known : (t : ℕ) → (has_ticket t h ≡ true) ⊎ (s.ticket.0 ≡ t) → (t < mark_of (notes ++ x ∷ [])) ⊎ (is_noted t (notes ++ x ∷ []) ≡ true)
    known t (inl there) = known_push notes (x ∷ []) h m.known t there
    known t (inr same) = inr (noted_push t notes (x ∷ []) ∙ ap (λ u. is_noted t notes || (is_for u x || false)) (sym same) ∙ ap (λ b. is_noted t notes || (b || false)) mine ∙ or_true (is_noted t notes))

-- a prepared transaction is applied
pub prepared_comes : (notes : List Note) (h : List Entry) (s : Sealed) (v : TableState) → (m : IsMatched notes h) → next_of notes ≤ s.ticket.0 → are_on (live_tables (groups_of notes)) s.ops ≡ true → NoneConflicts m.backing.schema (pending h (log_in h notes)) s
    → applied_all s.ops m.virtual ≡ Some v → IsMatched (notes ++ Prepare s ∷ []) (h ++ entry_of s ∷ [])
prepared_comes notes h s v m le on none is =
    let l = last_le notes in
    at_once_noted notes h (Prepare s) s v m le none is (ap (λ b. if_stands b s) (here_now h s)) (eq-eqb s.ticket.0 s.ticket.0 refl) refl (omega (arith, le, l), on)

-- a passed-on write is applied
pub number_comes : (notes : List Note) (h : List Entry) (s : Sealed) (v : TableState) → (m : IsMatched notes h) → next_of notes ≤ s.ticket.0 → NoneConflicts m.backing.schema (pending h (log_in h notes)) s → applied_all s.ops m.virtual ≡ Some v
    → IsMatched (notes ++ Number s.ticket.0 ∷ []) (h ++ entry_of s ∷ [])
number_comes notes h s v m le none is =
    let l = last_le notes in
    at_once_noted notes h (Number s.ticket.0) s v m le none is (ap only_found (found_now h s (no_later h notes m.fits m.known s.ticket.0 le))) (eq-eqb s.ticket.0 s.ticket.0 refl) refl (omega (arith, le, l))

-- others' transactions, and tables

quiet_entry : (notes : List Note) (h : List Entry) (e : Entry) → (m : IsMatched notes h) → IsQuiet e → Stand (progress_of (groups_of notes) (h ++ e ∷ []) (log_in h notes) (next_of notes)) → IsMatched notes (h ++ e ∷ [])
quiet_entry notes h e m quiet stand =
    stands_matched notes (h ++ e ∷ []) (next_of notes) (fits_later h (h ++ e ∷ []) (grown h (e ∷ [])) empty_catalog [] [] notes (λ tables off. off) m.fits)
    (λ t there. m.known t (sym (quiet_same t h e quiet) ∙ there)) (moved (groups_of notes) (groups_of notes) (h ++ e ∷ []) (log_in h notes) (log_in (h ++ e ∷ []) notes) (next_of notes) refl (steady_quiet h e notes quiet) stand)

pub others_come : (notes : List Note) (h : List Entry) (ops : List Op) (b : TableState) → (m : IsMatched notes h) → applied_all ops m.backing ≡ Some b → are_off (live_tables (groups_of notes)) ops ≡ true → IsMatched notes (h ++ Foreign ops ∷ [])
others_come notes h ops b m is off = quiet_entry notes h (Foreign ops) m tt (stand_others (groups_of notes) h (log_in h notes) (next_of notes) (matched_stands notes h m) ops b is off).stand

pub table_comes : (notes : List Note) (h : List Entry) (def : TableDef) → (m : IsMatched notes h) → AreClosed (groups_of notes) (m.backing.schema ++ def ∷ []) → IsMatched notes (h ++ Definition def ∷ [])
table_comes notes h def m closed = quiet_entry notes h (Definition def) m tt (stand_table (groups_of notes) h (log_in h notes) (next_of notes) (matched_stands notes h m) def closed).0

-- a crash: the last commits are lost, of which none stands in the history

pub last_lost : (notes : List Note) (h : List Entry) (s : Sealed) → IsMatched (notes ++ Commit s ∷ []) h → has_ticket s.ticket.0 h ≡ false → IsMatched notes h
last_lost notes h s m fresh =
    let stand = moved (groups_of (notes ++ Commit s ∷ [])) (groups_of notes) h (log_in h (notes ++ Commit s ∷ [])) (log_in h notes ++ s ∷ []) (next_of (notes ++ Commit s ∷ [])) (sym (groups_push notes (Commit s))) (sym (log_one h notes (Commit s) (s ∷ []) refl)) (matched_stands (notes ++ Commit s ∷ []) h m) in
    stands_matched notes h (next_of (notes ++ Commit s ∷ [])) (fits_front h empty_catalog [] notes (Commit s ∷ []) m.fits) (λ t there. known t there (m.known t there)) (stand_loses (groups_of notes) h (log_in h notes) s (next_of (notes ++ Commit s ∷ [])) fresh stand)
  where
    differ : {P : Type 0} (b : Bool) → b ≡ true → b ≡ false → P
    differ b x y = cc

    which : (t : ℕ) → has_ticket t h ≡ true → (a b : Bool) → is_noted t notes ≡ a → nat_eq s.ticket.0 t ≡ b → (a || (b || false)) ≡ true → is_noted t notes ≡ true
    which t there true b e f g = e
    which t there false true e f g = differ (has_ticket t h) there (ap (λ u. has_ticket u h) (sym (eqb-true s.ticket.0 t f)) ∙ fresh)
    which t there false false e f g = cc

    known : (t : ℕ) → has_ticket t h ≡ true → (t < mark_of (notes ++ Commit s ∷ [])) ⊎ (is_noted t (notes ++ Commit s ∷ []) ≡ true) → (t < mark_of notes) ⊎ (is_noted t notes ≡ true)
    known t there (inl lt) = inl (subst (λ (n : ℕ). t < n) (mark_commits notes s) lt)
    known t there (inr e) = inr (which t there (is_noted t notes) (nat_eq s.ticket.0 t) refl refl (sym (noted_push t notes (Commit s ∷ [])) ∙ e))

pub tail_lost : (notes : List Note) (h : List Entry) (late : List Sealed) → IsMatched (notes ++ map Commit late) h → NoneThere h late → IsMatched notes h
tail_lost notes h [] m none = subst (λ (l : List Note). IsMatched l h) (append-nil notes) m
tail_lost notes h (s ∷ late) m none =
    last_lost notes h s (tail_lost (notes ++ Commit s ∷ []) h late (subst (λ (l : List Note). IsMatched l h) (sym (append_assoc notes (Commit s ∷ []) (map Commit late))) m) none.1) none.0
