-- The tier that is opened again keeps its journal, from which it was opened, whatever end the opening comes to.
use Rattle.std.proofs.Common.{◌≡◌, inl, inr, ℕ, suc, ◌≤◌, Bool, true, false, Option, Some, None, Result, Ok, Err, List, [], ◌∷◌, ◌++◌, refl, sym, ap, subst, ◌∙◌, arith, append-nil}
use Rattle.std.specs.List.{list_all, list_any}
use Rattle.table_state.specs.declared.history.Sealed.{Sealed}
use Rattle.table_state.specs.Tables.{TableState}
use Rattle.outside.specs.declared.fault.BankError.{BankError}
use Rattle.order_laws.specs.Commits.{pending}
use Rattle.recovery_laws.specs.Crashes.{AreHeld}
use Rattle.recovery_laws.specs.Notes.{Note, log_in}
use Rattle.cache_tier.specs.declared.reply.Reply.{Reply}
use Rattle.cache_tier.specs.Events.{with_tier}
use Rattle.cache_tier.specs.Groups.{Group}
use Rattle.cache_tier.specs.Journals.{JournalEntry, next_behind}
use Rattle.cache_tier.specs.JournalWays.{given}
use Rattle.cache_tier.specs.Reading.{ReadsFirst, StageFollowsAt, as_it_was, backing_at}
use Rattle.cache_tier.specs.Rounds.{Applies}
use Rattle.cache_tier.specs.Sets.{alone, changed, changed_from, refreshed}
use Rattle.cache_tier.specs.StandingBetween.{Each, Stands}
use Rattle.cache_tier.specs.TierStates.{Session, Settings, Tier, opened}
use Rattle.cache_tier.specs.Worlds.{Becomes, IsUnshared, OnlyWhere, Passes, Stage, StageFollows, ThenStage, World}
use Rattle.recovery.specs.Journalled.{AreAlike, IsJournalled, IsQuiet}
use Rattle.recovery.specs.Recalling.{AreMatched, RecallsAll, notes_of, recalled}
use Rattle.recovery.specs.Reopening.{HoldAgain, HoldsAgainAt, IsReopened, Reloads, ViewsAgain, holding, is_held_again, is_viewed_again, with_sets_begun}
use Rattle.recovery.proofs.LeftLaws.{Leaves, all_same, alike_back}
use Rattle.recovery.proofs.OthersLaws.{on_then}
use Rattle.recovery.proofs.RecalledLaws.{folded, stands_recalled}
use Rattle.recovery.proofs.SafeLaws.{safely, wayless}
use Rattle.line_laws.specs.Keeping.{is_broken}
use Rattle.line_laws.proofs.BrokenParts.{bank_tells}
use Rattle.line_laws.proofs.PartWords.{Any, Goes, GoesStage, becomes_goes, only_where_goes, passes_goes, reads_first_goes, still_quiet, then_stage_goes}
use Rattle.line_laws.proofs.QuietTiers.{alike_changed, quiet_groups, refreshed_quiet}
use Rattle.line_laws.proofs.RoundLaws.{Rounded, applied, drained_end}
use Rattle.line_laws.proofs.LoadStatements.{round_unshared}
use Rattle.order_laws.proofs.TruthLaws.{same_some}
use Rattle.table_state.specs.Histories.{state_of}
use Rattle.run_laws.specs.Lines.{IsLeft, IsOfOneKind, are_later}
use Rattle.run_laws.specs.Runs.{IsKeptOf, Reopened, StoodOpening}
use Rattle.run_laws.proofs.RunKeeps.{survives}
use Rattle.run_laws.proofs.SitsLaws.{Sits, StageSits, becomes_sits, changed_sits, kept, only_where_sits, passes_sits, reads_first_sits, then_stage_sits}
use Rattle.run_laws.proofs.StandLaws.{IsSeenAs, seen_as, stands_seen}

-- ---- what the tier begins with

-- A world whose tier is what the entries leave, which its journal has flushed.
module _ (settings : Settings) (moment : ℕ) (entries : List JournalEntry) (w : World) (matched : AreMatched entries w.history) (catalog : Tier) (recalls : RecallsAll entries (opened settings moment matched.backing.schema) catalog)
    (tier : w.tier ≡ with_sets_begun (recalled matched.backing.schema entries w.history catalog)) (kept_there : w.journal.kept ≡ true) (flushed : w.journal.flushed ≡ entries) (tail : w.journal.tail ≡ []) where
  begun_seen : IsSeenAs (recalled matched.backing.schema entries w.history catalog) w.tier
  begun_seen = seen_as (recalled matched.backing.schema entries w.history catalog) w.tier (with_sets_begun (recalled matched.backing.schema entries w.history catalog)) tier
      (record { schema = refl; stale = refl; groups = refl; log = refl; unsettled = refl; sessions = refl; next = refl })

  -- all entries are flushed
  all_given : given w.journal ≡ entries
  all_given = (λ i. flushed i ++ tail i) ∙ append-nil entries

  other : Leaves entries (opened settings 0 matched.backing.schema) catalog
  other = all_same entries (opened settings moment matched.backing.schema) (opened settings 0 matched.backing.schema) catalog (record { schema = refl; next = refl; groups = tt }) recalls

  -- with no way asked for
  begun_bare : (early : List Sealed) → AreHeld (notes_of matched.backing.schema entries) w.history early → IsJournalled (wayless w) early
  begun_bare early held = record {
    kept = kept_there;
    backing = matched.backing;
    leaves = matched.leaves;
    late = [];
    tail = tail;
    stands =
        subst (λ l. Rattle.recovery_laws.specs.Crashes.Stands (record { flushed = notes_of matched.backing.schema l; late = []; history = w.history; commits = early ++ [] }) early) (sym flushed)
        (record {
          matched = subst (λ (n : List Note). Rattle.recovery_laws.specs.Matching.IsMatched n w.history) (sym (append-nil (notes_of matched.backing.schema entries))) matched.matched;
          ahead = tt;
          are = refl;
          held = held;
        });
    settings = settings;
    catalog = other.left;
    recalls = subst (λ l. RecallsAll l (opened settings 0 matched.backing.schema) other.left) (sym all_given) other.recalls;
    alike = subst (AreAlike other.left.groups) (sym begun_seen.groups) (alike_back catalog.groups other.left.groups other.same.groups);
    tie =
        ap (pending w.history) begun_seen.log
        ∙ ap (λ l. pending w.history (log_in w.history (notes_of matched.backing.schema l))) (sym all_given);
    next = subst (λ n. n ≤ w.tier.next) (ap next_behind (sym all_given)) (subst (λ n. next_behind entries ≤ n) (sym begun_seen.next) (omega arith));
    safe = tt;
  }

-- with its way
module _ (settings : Settings) (moment : ℕ) (entries : List JournalEntry) (w : World) (early : List Sealed) (matched : AreMatched entries w.history) (catalog : Tier) (recalls : RecallsAll entries (opened settings moment matched.backing.schema) catalog)
    (tier : w.tier ≡ with_sets_begun (recalled matched.backing.schema entries w.history catalog)) (j : IsKeptOf entries w) (held : AreHeld (notes_of matched.backing.schema entries) w.history early) where
  pub begun_journalled : IsJournalled w early
  begun_journalled = safely w early (begun_bare settings moment entries w matched catalog recalls tier j.kept j.flushed j.tail early held) j.way

-- ---- no call of the journal's disk is made

-- the stage stops with no reply that tells one that failed
abbrev StageIsWhole : Stage → Type 0
StageIsWhole stage = (w w' : World) (stop : Option Reply) → stage w w' stop → is_broken stop ≡ false

passes_whole : StageIsWhole Passes
passes_whole w w' stop q = ap is_broken q.1

becomes_whole : (change : World → Tier) → StageIsWhole (Becomes change)
becomes_whole change w w' stop q = ap is_broken q.1

only_where_whole : (b : Bool) (stage : Stage) → StageIsWhole stage → StageIsWhole (OnlyWhere b stage)
only_where_whole true stage so w w' stop q = so w w' stop q
only_where_whole false stage so w w' stop q = ap is_broken q.1

then_stage_whole : (one other : Stage) → StageIsWhole one → StageIsWhole other → StageIsWhole (ThenStage one other)
then_stage_whole one other a b w w' end q = by q.stop q.first q.next
  where
    by : (stop : Option Reply) → one w q.mid stop → StageFollows stop other q.mid w' end → is_broken end ≡ false
    by None first next = b q.mid w' end next
    by (Some r) first next = ap is_broken next.1 ∙ a w q.mid (Some r) first

reads_first_whole : (tried : Tier → Tier) (next : ℕ → Stage) → ((n : ℕ) → StageIsWhole (next n)) → StageIsWhole (ReadsFirst tried next)
reads_first_whole tried next so w w' stop q = by q.result q.goes_on
  where
    by : (result : Result ℕ BankError) → StageFollowsAt result next q.mid w' stop → is_broken stop ≡ false
    by (Err e) follows = ap is_broken follows.1 ∙ bank_tells e
    by (Ok n) (inl follows) = so n q.mid w' stop follows
    by (Ok n) (inr follows) = ap is_broken follows.1

views_whole : StageIsWhole ViewsAgain
views_whole w w' stop q =
    only_where_whole (list_any (is_viewed_again 0) w.tier.groups) (ReadsFirst as_it_was (λ n. Becomes (λ v. refreshed is_viewed_again n (backing_at v n) v.tier)))
    (reads_first_whole as_it_was (λ n. Becomes (λ v. refreshed is_viewed_again n (backing_at v n) v.tier)) (λ n. becomes_whole (λ v. refreshed is_viewed_again n (backing_at v n) v.tier))) w w' stop q

hold_whole : (place : ℕ) (groups : List Group) → StageIsWhole (HoldAgain place groups)
hold_whole place [] = passes_whole
hold_whole place (g ∷ groups) =
    then_stage_whole (OnlyWhere (is_held_again g) (HoldsAgainAt place)) (HoldAgain (suc place) groups)
    (only_where_whole (is_held_again g) (HoldsAgainAt place)
    (reads_first_whole as_it_was (λ n. Becomes (λ v. changed (alone place) (holding (backing_at v n)) v.tier)) (λ n. becomes_whole (λ v. changed (alone place) (holding (backing_at v n)) v.tier))))
    (hold_whole (suc place) groups)

reloads_whole : StageIsWhole Reloads
reloads_whole w w' stop q = then_stage_whole ViewsAgain (HoldAgain 0 w.tier.groups) views_whole (hold_whole 0 w.tier.groups) w w' stop q

-- ---- the opening

module _ (settings : Settings) (moment : ℕ) (entries : List JournalEntry) (w w' : World) (early : List Sealed) (stop : Option Reply) (x : IsReopened settings moment entries w w' stop) (j : IsKeptOf entries w) (held : AreHeld (notes_of x.matched.backing.schema entries) w.history early) (apart : IsUnshared w) where
  begun : IsSeenAs (recalled x.matched.backing.schema entries w.history x.catalog) w.tier
  begun = begun_seen settings moment entries w x.matched x.catalog x.recalls x.tier j.kept j.flushed j.tail

  stands : Stands w
  stands = stands_seen (with_tier (recalled x.matched.backing.schema entries w.history x.catalog) w) w begun refl (stands_recalled w entries settings moment x.catalog x.matched x.recalls)

  journalled : IsJournalled w early
  journalled = begun_journalled settings moment entries w early x.matched x.catalog x.recalls x.tier j held

  -- ---- behind the round, and with the rows that come back

  keys_stage : (choice : World → Tier) → ((v : World) → IsQuiet v.tier (choice v)) → GoesStage Any Any (Becomes choice)
  keys_stage choice quiet = becomes_goes Any Any choice (λ v p. quiet v) (λ v p. tt)

  views : GoesStage Any Any ViewsAgain
  views v v' early stop j apart p q ok =
      only_where_goes Any (list_any (is_viewed_again 0) v.tier.groups) (ReadsFirst as_it_was (λ n. Becomes (λ v. refreshed is_viewed_again n (backing_at v n) v.tier)))
      (reads_first_goes Any Any Any as_it_was (λ n. Becomes (λ v. refreshed is_viewed_again n (backing_at v n) v.tier)) still_quiet (λ a b p e. tt) (λ a p. tt)
      (λ n. keys_stage (λ v. refreshed is_viewed_again n (backing_at v n) v.tier) (λ v. refreshed_quiet is_viewed_again n (backing_at v n) v.tier))) v v' early stop j apart p q ok

  held_quiet : (place : ℕ) (s : TableState) (t : Tier) → IsQuiet t (changed (alone place) (holding s) t)
  held_quiet place s t = quiet_groups t (changed_from (alone place) (holding s) 0 t.groups) (alike_changed (alone place) (holding s) (λ g. record { def = refl; state = λ r. refl; loaded = refl }) 0 t.groups)

  holds_at : (place : ℕ) → GoesStage Any Any (HoldsAgainAt place)
  holds_at place =
      reads_first_goes Any Any Any as_it_was (λ n. Becomes (λ v. changed (alone place) (holding (backing_at v n)) v.tier)) still_quiet (λ a b p e. tt) (λ a p. tt)
      (λ n. keys_stage (λ v. changed (alone place) (holding (backing_at v n)) v.tier) (λ v. held_quiet place (backing_at v n) v.tier))

  hold : (place : ℕ) (groups : List Group) → GoesStage Any Any (HoldAgain place groups)
  hold place [] = passes_goes Any
  hold place (g ∷ groups) = then_stage_goes Any Any Any (OnlyWhere (is_held_again g) (HoldsAgainAt place)) (HoldAgain (suc place) groups) (λ v p. tt) (only_where_goes Any (is_held_again g) (HoldsAgainAt place) (holds_at place)) (hold (suc place) groups)

  reloads : GoesStage Any Any Reloads
  reloads v v' early stop j apart p q ok = then_stage_goes Any Any Any ViewsAgain (HoldAgain 0 v.tier.groups) (λ a p. tt) views (hold 0 v.tier.groups) v v' early stop j apart p q ok

  -- ---- sessions and what is unsettled

  views_sit : StageSits ViewsAgain
  views_sit v v' stop q = only_where_sits (list_any (is_viewed_again 0) v.tier.groups) _ (reads_first_sits as_it_was _ (λ t. kept t) (λ n. becomes_sits _ (λ v. changed_sits is_viewed_again _ (λ g. refl) v.tier))) v v' stop q

  hold_sits : (place : ℕ) (groups : List Group) → StageSits (HoldAgain place groups)
  hold_sits place [] = passes_sits
  hold_sits place (g ∷ groups) = then_stage_sits _ _ (only_where_sits (is_held_again g) _ (reads_first_sits as_it_was _ (λ t. kept t) (λ n. becomes_sits _ (λ v. changed_sits (alone place) (holding (backing_at v n)) (λ g. refl) v.tier)))) (hold_sits (suc place) groups)

  reloads_sit : StageSits Reloads
  reloads_sit v v' stop q = then_stage_sits ViewsAgain (HoldAgain 0 v.tier.groups) views_sit (hold_sits 0 v.tier.groups) v v' stop q

  idle : w.tier.sessions ≡ []
  idle = begun.sessions ∙ (folded entries w.history settings moment x.catalog x.matched x.recalls).idle

  -- ---- whatever the end is

  round : Rounded w x.does.mid early
  round = applied w x.does.mid early x.does.stop stands journalled apart j.tail x.does.first

  apart_mid : IsUnshared x.does.mid
  apart_mid = round_unshared w x.does.mid early apart round

  stood : StoodOpening w' early
  stood = by x.does.stop x.does.next
    where
      by : (end : Option Reply) → StageFollows end Reloads x.does.mid w' stop → StoodOpening w' early
      by (Some r) next = subst (λ v. StoodOpening v early) (sym next.0) (record { on = round.on; unshared = apart_mid })
      by None next = record { on = on_then w' early round.on.now round.on.more round.on.grows goes.on; unshared = goes.unshared }
        where
          goes : Goes Any w' round.on.now
          goes = reloads x.does.mid w' round.on.now stop round.on.is apart_mid tt next (reloads_whole x.does.mid w' stop next)

pub stood_kept : (settings : Settings) (moment : ℕ) (entries : List JournalEntry) (w w' : World) (early : List Sealed) (stop : Option Reply) (x : IsReopened settings moment entries w w' stop) → IsKeptOf entries w → AreHeld (notes_of x.matched.backing.schema entries) w.history early → IsUnshared w → StoodOpening w' early
stood_kept settings moment entries w w' early stop x j held apart = stood settings moment entries w w' early stop x j held apart

-- ---- at its end

module _ (settings : Settings) (moment : ℕ) (entries : List JournalEntry) (w w' : World) (early : List Sealed) (x : IsReopened settings moment entries w w' None) (j : IsKeptOf entries w) (held : AreHeld (notes_of x.matched.backing.schema entries) w.history early) (apart : IsUnshared w) where
  none_left : (p : Sealed → Bool) (us vs : List Sealed) → us ≡ [] → ((q : Sealed → Bool) → list_all q us ≡ true → list_all q vs ≡ true) → vs ≡ []
  none_left p us [] e sits = refl
  none_left p us (v ∷ vs) e sits =
      let all : list_all (λ s. false) us ≡ true = ap (list_all (λ s. false)) e in
      let bad : false ≡ true = sits (λ s. false) all in
      Prim.cc

  reopened : Reopened w' early
  reopened = by x.does.stop x.does.first x.does.next
    where
      on_end : StoodOpening w' early
      on_end = stood settings moment entries w w' early None x j held apart

      by : (stop : Option Reply) → Applies w x.does.mid stop → StageFollows stop Reloads x.does.mid w' None → Reopened w' early
      by (Some r) first next = let bad : None ≡ Some r = next.1 in Prim.cc
      by None first next = record {
        on = on_end.on;
        unshared = on_end.unshared;
        kinds = record {
          later = ap (are_later w'.tier.groups) (none_left (λ s. true) x.does.mid.tier.unsettled w'.tier.unsettled drained sits.unsettled);
          own = subst (λ ss. Each (λ (s : Session). IsOfOneKind w'.tier.groups s.own) ss) (sym (sits.sessions ∙ ap (λ (t : Tier). t.sessions) first.tier ∙ idle settings moment entries w w' early None x j held apart)) tt;
        };
      }
        where
          drained : x.does.mid.tier.unsettled ≡ []
          drained = drained_end w.tier first.result x.does.mid.tier.unsettled first.all (sym first.end)

          sits : Sits x.does.mid.tier w'.tier
          sits = reloads_sit settings moment entries w w' early None x j held apart x.does.mid w' None next

pub reopened_kept : (settings : Settings) (moment : ℕ) (entries : List JournalEntry) (w w' : World) (early : List Sealed) (x : IsReopened settings moment entries w w' None) → IsKeptOf entries w → AreHeld (notes_of x.matched.backing.schema entries) w.history early → IsUnshared w → Reopened w' early
reopened_kept settings moment entries w w' early x j held apart = reopened settings moment entries w w' early x j held apart

-- after a crash between two lines
pub begun_again : (w v v' : World) (early : List Sealed) (settings : Settings) (moment : ℕ) → IsLeft w → IsJournalled w early → v.history ≡ w.history → IsKeptOf w.journal.flushed v → IsUnshared v → IsReopened settings moment w.journal.flushed v v' None → Reopened v' early
begun_again w v v' early settings moment left j same kept apart x =
    let c = (survives w early settings moment left j).crash in
    let backing : c.matched.backing ≡ x.matched.backing = same_some (sym c.matched.leaves ∙ ap state_of (sym same) ∙ x.matched.leaves) in
    let there : AreHeld (notes_of c.matched.backing.schema w.journal.flushed) v.history c.left.front = subst (λ h. AreHeld (notes_of c.matched.backing.schema w.journal.flushed) h c.left.front) (sym same) c.left.held in
    let held : AreHeld (notes_of x.matched.backing.schema w.journal.flushed) v.history c.left.front = subst (λ (b : TableState). AreHeld (notes_of b.schema w.journal.flushed) v.history c.left.front) backing there in
    let r = reopened_kept settings moment w.journal.flushed v v' c.left.front x kept held apart in
    record { on = on_then v' early c.left.front c.left.more c.left.durable_are r.on; unshared = r.unshared; kinds = r.kinds }
