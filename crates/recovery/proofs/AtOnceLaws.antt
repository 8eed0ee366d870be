-- What keeps the journal the tier's where a synchronous transaction commits.
use Rattle.std.proofs.Common.{◌≡◌, ◌⊎◌, inl, inr, ◌+◌, ◌≤◌, Bool, true, false, cond, not, ◌||◌, max, Some, List, [], ◌∷◌, ◌++◌, length, map, filter, refl, sym, ap, subst, ◌∙◌, arith, append-nil, eq-eqb}
use Rattle.std.specs.Option.{option_and_then}
use Rattle.std.proofs.Math.Nat.{le-max_right, max-le}
use Rattle.std.proofs.lemmas.List.{map-append}
use Rattle.std.proofs.lemmas.List.Elements.{filter-append}
use Rattle.std.proofs.lemmas.List.Sums.{fold-append}
use Rattle.table_defs.specs.declared.definition.TableDef.{TableDef}
use Rattle.table_state.specs.declared.history.Entry.{Entry}
use Rattle.table_state.specs.declared.history.Sealed.{Sealed}
use Rattle.table_state.specs.Histories.{entry_of, has_ticket, state_of}
use Rattle.table_state.specs.Operations.{applied_all}
use Rattle.table_state.specs.Tables.{TableState}
use Rattle.table_state.proofs.HistoryLaws.{has_ticket-append}
use Rattle.order_laws.specs.Commits.{NoneConflicts, applied_sealed, is_pending, pending}
use Rattle.order_laws.proofs.NextLaws.{all_defined}
use Rattle.order_laws.proofs.PendingLaws.{is_not, pending_came}
use Rattle.recovery_laws.specs.Crashes.{Stands, StandsOn, applies as comes_at_once, numbers, passes, prepares, with_entry, with_flushed}
use Rattle.recovery_laws.specs.Crashes as crash
use Rattle.recovery_laws.specs.Notes.{Note, Number, Prepare, catalog_of, empty_catalog, if_stands, log_in, next_of, only_found, told}
use Rattle.recovery_laws.proofs.CrashLaws.{event_keeps}
use Rattle.recovery_laws.proofs.EventLaws.{found_none, found_now, log_one}
use Rattle.recovery_laws.proofs.PushLaws.{beside_own, fits_front, free_below, steady}
use Rattle.cache_tier.specs.CommitSteps.{sealed_own}
use Rattle.cache_tier.specs.Events.{at_history}
use Rattle.cache_tier.specs.Journals.{Journal, JournalEntry, Numbers, Prepares, next_behind, next_with}
use Rattle.cache_tier.specs.JournalWays.{given}
use Rattle.cache_tier.specs.PassedSteps.{with_ticket}
use Rattle.cache_tier.specs.StandingBetween as between
use Rattle.cache_tier.specs.TierStates.{Session, Tier, opened, session_of}
use Rattle.cache_tier.specs.Worlds.{World}
use Rattle.recovery.specs.Journalled.{IsAwaited, IsFlushedWith, IsJournalled, IsJournalledOn, IsNumbered, IsPrepared, IsQuiet, IsToldAtOnce, with_flushed_entry}
use Rattle.recovery.specs.Recalling.{RecallsAll, note_of, notes_of}
use Rattle.recovery.proofs.JournalledLaws.{alike_trans, entry_journalled, fresh, given_is, le, matched, notes, on, seen}
use Rattle.recovery.proofs.LiveLaws.{unshared_back}
use Rattle.recovery.proofs.RoundedLaws.{leads_own}
use Rattle.recovery.proofs.SafeLaws.{grow_safe, safely, wayless}

-- ---- the transaction is prepared

pub prepare_kept : (w : World) (early : List Sealed) (s : Session) (t : Tier) (new : Journal) → between.Stands w → IsJournalled w early → session_of w.tier s.label ≡ Some s → IsFlushedWith (Prepares (sealed_own w.tier s)) (length w.history) w.journal new → IsQuiet (with_ticket w.tier) t
    → IsJournalledOn (with_flushed_entry t new w) early
prepare_kept w early s t new stands j there is quiet =
    entry_journalled w early j (Prepares (sealed_own w.tier s)) new is
    (event_keeps (seen w early j) (with_flushed (crash.given (seen w early j) ++ Prepare (sealed_own w.tier s) ∷ []) (seen w early j)) early (prepares (sealed_own w.tier s) (le w early j s stands there) (on w early j s stands there)) j.stands)
    t (record (j.catalog) { next = next_with j.catalog.next (Prepares (sealed_own w.tier s)) }) refl (alike_trans j.catalog.groups w.tier.groups t.groups j.alike quiet.groups) quiet.log
    (ap (λ b. if_stands b (sealed_own w.tier s)) (fresh w early j s stands there)) below (let up = quiet.next in omega (arith, up)) (unshared_back w.shared w.tier.groups t.groups quiet.groups)
  where
    below : next_behind (given w.journal ++ Prepares (sealed_own w.tier s) ∷ []) ≤ t.next
    below =
        subst (λ n. n ≤ t.next) (sym (fold-append next_with 1 (given w.journal) (Prepares (sealed_own w.tier s) ∷ [])))
        (let low = j.next in let up = quiet.next in max-le {a = next_behind (given w.journal)} {b = w.tier.next + 1} {k = t.next} (omega (arith, low, up)) (omega (arith, up)))

-- ---- it comes

-- what stands in the history isn't pending
none_waits : (h : List Entry) (s : Sealed) → pending (h ++ entry_of s ∷ []) (s ∷ []) ≡ []
none_waits h s = ap (λ b. cond (not b) (s ∷ []) []) (has_ticket-append s.ticket.0 h (entry_of s ∷ []) ∙ ap (λ b. has_ticket s.ticket.0 h || (b || false)) (eq-eqb s.ticket.0 s.ticket.0 refl) ∙ or_true (has_ticket s.ticket.0 h))
  where
    or_true : (b : Bool) → (b || true) ≡ true
    or_true true = refl
    or_true false = refl

-- of a log that has it or not, the same is pending then
told_either : (h : List Entry) (log log' : List Sealed) (s : Sealed) → (log' ≡ log) ⊎ (log' ≡ log ++ s ∷ []) → pending (h ++ entry_of s ∷ []) log' ≡ pending (h ++ entry_of s ∷ []) log
told_either h log log' s (inl e) = ap (pending (h ++ entry_of s ∷ [])) e
told_either h log log' s (inr e) =
    ap (pending (h ++ entry_of s ∷ [])) e ∙ filter-append (is_pending (h ++ entry_of s ∷ [])) log (s ∷ []) ∙ ap (λ l. pending (h ++ entry_of s ∷ []) log ++ l) (none_waits h s)
    ∙ append-nil (pending (h ++ entry_of s ∷ []) log)

-- it comes where its record is the last that is flushed
abbrev pub Coming : Sealed → Note → Type 0
Coming s n =
    (x : crash.World) (before : List Note) (b v l : TableState) → x.late ≡ [] → x.flushed ≡ before ++ n ∷ [] → crash.Over x b v → next_of before ≤ s.ticket.0 → has_ticket s.ticket.0 x.history ≡ false
    → NoneConflicts b.schema (crash.waiting x) s → applied_all s.ops v ≡ Some l → crash.Event x (with_entry (entry_of s) x)

module _ (w : World) (early : List Sealed) (j : IsJournalled w early) (s : Sealed) (front : List JournalEntry) (e : JournalEntry) (n : Note) (as_note : (defs : List TableDef) → note_of defs e ≡ n) (come : Coming s n) (p : IsAwaited e w s front) (silent : told w.history n ≡ []) (tells : told (w.history ++ entry_of s ∷ []) n ≡ s ∷ []) where
  abbrev schema : List TableDef
  schema = j.backing.schema

  abbrev flushed : List Note
  flushed = notes_of schema w.journal.flushed

  abbrev before : List Note
  before = notes_of schema front

  late_none : j.late ≡ []
  late_none = none j.late (sym j.tail ∙ p.tail)
    where
      none : (late : List Sealed) → map Rattle.cache_tier.specs.Journals.Commits late ≡ [] → late ≡ []
      none [] e = refl
      none (y ∷ late) e = Prim.cc

  begin : Stands (record { flushed = flushed; late = []; history = w.history; commits = early ++ [] }) early
  begin = subst (λ l. Stands (record { flushed = flushed; late = l; history = w.history; commits = early ++ l }) early) late_none j.stands

  flushed_is : flushed ≡ before ++ n ∷ []
  flushed_is = ap (notes_of schema) p.flushed ∙ map-append (note_of schema) front (e ∷ []) ∙ ap (λ x. before ++ x ∷ []) (as_note schema)

  all_notes : flushed ++ [] ≡ notes w early j
  all_notes = append-nil flushed ∙ ap (notes_of schema) (sym (ap (λ l. w.journal.flushed ++ l) p.tail ∙ append-nil w.journal.flushed))

  -- the entries before it match, too
  fits : Rattle.recovery_laws.specs.Notes.FitAll w.history empty_catalog [] before
  fits = fits_front w.history empty_catalog [] before (n ∷ []) (subst (Rattle.recovery_laws.specs.Notes.FitAll w.history empty_catalog []) (sym all_notes ∙ append-nil flushed ∙ flushed_is) (matched w early j).fits)

  low : next_of before ≤ s.ticket.0
  low = subst (λ n. n ≤ s.ticket.0) (Rattle.recovery.proofs.FoldLaws.behind schema w.history [] front 1 0 empty_catalog refl fits ∙ ap (λ k. max k (catalog_of before).next) (Rattle.std.proofs.Math.Nat.max-eq_right {n = 0} {m = Rattle.recovery_laws.specs.Notes.mark_of before} (omega arith))) p.below

  waiting_is : pending w.history (log_in w.history (flushed ++ [])) ≡ pending w.history w.tier.log
  waiting_is = ap (λ l. pending w.history (log_in w.history l)) all_notes ∙ sym j.tie

  meets : NoneConflicts j.backing.schema (pending w.history (log_in w.history (flushed ++ []))) s
  meets = subst (λ l. NoneConflicts j.backing.schema l s) (sym waiting_is) (p.meets j.backing j.leaves)

  kept : StandsOn (with_entry (entry_of s) (record { flushed = flushed; late = []; history = w.history; commits = early ++ [] })) early
  kept = event_keeps (record { flushed = flushed; late = []; history = w.history; commits = early ++ [] }) (with_entry (entry_of s) (record { flushed = flushed; late = []; history = w.history; commits = early ++ [] })) early
      (come _ before j.backing p.virtual p.left refl flushed_is
      (record { leaves = j.leaves; is = ap (λ l. option_and_then (applied_sealed l) (state_of w.history)) waiting_is ∙ p.virtual_is }) low p.fresh meets p.leads) begin

  later : List Entry
  later = w.history ++ entry_of s ∷ []

  -- what the entries tell of then
  log_then : log_in (w.history ++ entry_of s ∷ []) (notes w early j) ≡ log_in w.history before ++ s ∷ []
  log_then =
      ap (log_in (w.history ++ entry_of s ∷ [])) (sym all_notes ∙ append-nil flushed ∙ flushed_is)
      ∙ log_one (w.history ++ entry_of s ∷ []) before n (s ∷ []) tells
      ∙ ap (λ l. l ++ s ∷ []) (steady s.ticket.0 w.history (w.history ++ entry_of s ∷ []) before (beside_own w.history s) (free_below w.history empty_catalog [] before s.ticket.0 fits (let up = le-max_right (Rattle.recovery_laws.specs.Notes.mark_of before) (catalog_of before).next in let at = low in omega (arith, up, at))))

  log_before : log_in w.history (notes w early j) ≡ log_in w.history before
  log_before = ap (log_in w.history) (sym all_notes ∙ append-nil flushed ∙ flushed_is) ∙ log_one w.history before n [] silent ∙ append-nil (log_in w.history before)

  tie_then : (log : List Sealed) → (log ≡ w.tier.log) ⊎ (log ≡ w.tier.log ++ s ∷ []) → pending (w.history ++ entry_of s ∷ []) log ≡ pending (w.history ++ entry_of s ∷ []) (log_in (w.history ++ entry_of s ∷ []) (notes w early j))
  tie_then log told =
      told_either w.history w.tier.log log s told
      ∙ pending_came w.history s.ticket s.ops w.tier.log
      ∙ ap (filter (is_not s.ticket.0)) (j.tie ∙ ap (pending w.history) log_before)
      ∙ sym (pending_came w.history s.ticket s.ops (log_in w.history before))
      ∙ sym (told_either w.history (log_in w.history before) (log_in w.history before ++ s ∷ []) s (inr refl))
      ∙ ap (pending (w.history ++ entry_of s ∷ [])) (sym log_then)

  known : kept.stands.matched.backing.schema ≡ schema
  known = all_defined s.ops j.backing kept.stands.matched.backing (leads_own w.history s j.backing kept.stands.matched.backing j.leaves kept.stands.matched.leaves)

  module _ (t : Tier) (told : IsToldAtOnce s w.tier t) where
    abbrev then : World
    then = at_history (w.history ++ entry_of s ∷ []) (record w { tier = t })

    at_once_bare : IsJournalled (wayless (at_history (w.history ++ entry_of s ∷ []) (record w { tier = t }))) kept.now
    at_once_bare = record {
      kept = j.kept;
      backing = kept.stands.matched.backing;
      leaves = kept.stands.matched.leaves;
      late = [];
      tail = p.tail;
      stands = subst (λ l. Stands (record { flushed = l; late = []; history = w.history ++ entry_of s ∷ []; commits = kept.now ++ [] }) kept.now) (ap (λ z. notes_of z w.journal.flushed) (sym known))
          (subst (λ l. Stands (record { flushed = flushed; late = []; history = w.history ++ entry_of s ∷ []; commits = l }) kept.now) kept.stands.are kept.stands);
      settings = j.settings;
      catalog = j.catalog;
      recalls = subst (λ z. RecallsAll (given w.journal) (opened j.settings 0 z) j.catalog) (sym known) j.recalls;
      alike = alike_trans j.catalog.groups w.tier.groups t.groups j.alike told.groups;
      tie = tie_then t.log told.log ∙ ap (λ z. pending (w.history ++ entry_of s ∷ []) (log_in (w.history ++ entry_of s ∷ []) (notes_of z (given w.journal)))) (sym known);
      next = let below = j.next in let up = told.next in omega (arith, below, up);
      safe = tt;
    }

    pub at_once_journalled : IsJournalledOn (at_history (w.history ++ entry_of s ∷ []) (record w { tier = t })) early
    at_once_journalled = record {
      now = kept.now;
      is = safely then kept.now at_once_bare (grow_safe w t (entry_of s) kept.now j.safe at_once_bare (unshared_back w.shared w.tier.groups t.groups told.groups));
      more = kept.more;
      grows = kept.grows;
    }

here_now : (h : List Entry) (s : Sealed) → has_ticket s.ticket.0 (h ++ entry_of s ∷ []) ≡ true
here_now h s = has_ticket-append s.ticket.0 h (entry_of s ∷ []) ∙ ap (λ b. has_ticket s.ticket.0 h || (b || false)) (eq-eqb s.ticket.0 s.ticket.0 refl) ∙ or_true (has_ticket s.ticket.0 h)
  where
    or_true : (b : Bool) → (b || true) ≡ true
    or_true true = refl
    or_true false = refl

pub at_once_kept : (w : World) (early : List Sealed) (s : Sealed) (front : List JournalEntry) (t : Tier) → IsJournalled w early → IsPrepared w s front → IsToldAtOnce s w.tier t → IsJournalledOn (at_history (w.history ++ entry_of s ∷ []) (record w { tier = t })) early
at_once_kept w early s front t j p told =
    at_once_journalled w early j s front (Prepares s) (Prepare s) (λ defs. refl) (λ x before b v l none is over low fresh meets leads. comes_at_once before s b v l none is over low fresh meets leads) p
    (ap (λ b. if_stands b s) p.fresh) (ap (λ b. if_stands b s) (here_now w.history s)) t told

-- ---- a write that is passed on

pub number_kept : (w : World) (early : List Sealed) (t : Tier) (new : Journal) → between.Stands w → IsJournalled w early → IsFlushedWith (Numbers w.tier.next) (length w.history) w.journal new → IsQuiet (with_ticket w.tier) t → IsJournalledOn (with_flushed_entry t new w) early
number_kept w early t new stands j is quiet =
    entry_journalled w early j (Numbers w.tier.next) new is
    (event_keeps (seen w early j) (with_flushed (crash.given (seen w early j) ++ Number w.tier.next ∷ []) (seen w early j)) early (numbers w.tier.next under) j.stands)
    t (record (j.catalog) { next = next_with j.catalog.next (Numbers w.tier.next) }) refl (alike_trans j.catalog.groups w.tier.groups t.groups j.alike quiet.groups) quiet.log
    (ap only_found (found_none w.tier.next w.history (stands.flow.stand.over.below w.tier.next (omega arith)))) below (let up = quiet.next in omega (arith, up)) (unshared_back w.shared w.tier.groups t.groups quiet.groups)
  where
    under : next_of (crash.given (seen w early j)) ≤ w.tier.next
    under = subst (λ n. n ≤ w.tier.next) (Rattle.recovery.proofs.RecalledLaws.next_is j.backing.schema w.history (given w.journal) (matched w early j) ∙ ap next_of (sym (given_is w early j))) j.next

    below : next_behind (given w.journal ++ Numbers w.tier.next ∷ []) ≤ t.next
    below =
        subst (λ n. n ≤ t.next) (sym (fold-append next_with 1 (given w.journal) (Numbers w.tier.next ∷ [])))
        (let low = j.next in let up = quiet.next in max-le {a = next_behind (given w.journal)} {b = w.tier.next + 1} {k = t.next} (omega (arith, low, up)) (omega (arith, up)))

pub passed_kept : (w : World) (early : List Sealed) (s : Sealed) (front : List JournalEntry) (t : Tier) → IsJournalled w early → IsNumbered w s front → IsToldAtOnce s w.tier t → IsJournalledOn (at_history (w.history ++ entry_of s ∷ []) (record w { tier = t })) early
passed_kept w early s front t j p told =
    at_once_journalled w early j s front (Numbers s.ticket.0) (Number s.ticket.0) (λ defs. refl) (λ x before b v l none is over low fresh meets leads. passes before s b v l none is over low fresh meets leads) p
    (ap only_found (found_none s.ticket.0 w.history p.fresh)) (ap only_found (found_now w.history s p.fresh)) t told
