-- What a crash leaves of an opening that failed may be opened again.
use Rattle.std.proofs.Common.{◌≡◌, inl, inr, ℕ, ◌+◌, Some, None, List, [], ◌++◌, length, refl, sym, ap, subst, ◌∙◌, arith, append_assoc}
use Rattle.std.proofs.lemmas.List.{length-append}
use Rattle.tier_base.specs.declared.number.TableId.{TableId}
use Rattle.table_state.specs.declared.history.Entry.{Entry}
use Rattle.table_state.specs.Histories.{state_of}
use Rattle.table_state.specs.Tables.{TableState}
use Rattle.outside.specs.Holding.{Held}
use Rattle.outside.specs.Others.{AreOthers}
use Rattle.outside.specs.Sites.{SiteState}
use Rattle.cache_tier.specs.GoesOn.{LeadsTo}
use Rattle.cache_tier.specs.Journals.{Journal, JournalEntry}
use Rattle.cache_tier.specs.JournalWays.{beginning_of}
use Rattle.cache_tier.specs.TierStates.{Settings}
use Rattle.cache_tier.specs.Worlds.{World}
use Rattle.cache_tier.proofs.WayLaws.{way_on_way}
use Rattle.recovery.specs.SafeWays.{IsSafeOn, IsSafeWay}
use Rattle.run_laws.specs.Runs.{StoodOpening}
use Rattle.stored_tier.proofs.OthersLaws as others
use Rattle.tier_journal.specs.Beginning.{begun_here}
use Rattle.tier_journal.specs.KeptOver.{IsLeftOver}
use Rattle.tier_journal.specs.declared.journal.TierJournal.{TierJournal}
use Rattle.tier_opening.specs.Leaving.{EndsEarly, IsAsFound, LeftSince, StopsBehind, StopsIn}
use Rattle.tier_opening.specs.Opening.{AtOpening, BeginsIn, MayOpen}
use Rattle.reopened_laws.specs.Ending.{MayOpenAgain}
use Rattle.reopened_laws.specs.Leaving.{HaveOwnTableNames}
use Rattle.reopened_laws.specs.Within.{AskNothing, EarlyEndIsSafe, IsFoundAgain, LeavesSafe, UnopenedImportsAreSafe, UnopenedRunsAreSafe, as_begun}
use Rattle.reopened_laws.proofs.ReadOpenings.{reopened_readable}
use Rattle.reopened_laws.proofs.RunEnds.{begins_stopped, reopens_lead}
use Rattle.reopened_laws.proofs.WithinLaws.{FreeAt, PointsFrom, longer_then, safe_from}

-- ---- the site as it was found

module _ (shared : List TableId) (o p : Held) (may : MayOpenAgain shared o) (f : IsAsFound shared o p) where
  -- others that come to it have come to what was held
  module _ (settings : Settings) (moment : ℕ) (k : TierJournal) (w : World) (b : BeginsIn settings moment p k w) (same : w.shared ≡ shared) where
    came : AreOthers shared o.history (f.others ++ b.others)
    came = others.others_more shared o.history f.others b.others f.came (subst (λ h. AreOthers shared h b.others) f.history (subst (λ s. AreOthers s p.history b.others) same b.came))

    begins : BeginsIn settings moment o k w
    begins = record {
      others = f.others ++ b.others;
      came = subst (λ s. AreOthers s o.history (f.others ++ b.others)) (sym same) came;
      history = b.history ∙ ap (λ h. h ++ b.others) f.history ∙ append_assoc o.history f.others b.others;
      schema = b.schema;
      known = b.known;
      entries = b.entries;
      say = record { placed = b.say.placed; reads = f.says b.say.placed None b.say.reads; stand = b.say.stand };
      since = b.since;
      from = b.from;
      least =
          (let long : length p.history ≡ length o.history + length f.others = ap (λ (h : List Entry). length h) f.history ∙ length-append o.history f.others in
          let le = b.least in
          omega (arith, long, le));
      most = b.most;
      journal = b.journal;
      catalog = b.catalog;
      recalls = b.recalls;
      tier = b.tier;
    }

  named : (s : TableState) → state_of p.history ≡ Some s → HaveOwnTableNames s.schema
  named s leaves =
      let m = others.state_before shared o.history f.others s f.came (ap state_of (sym f.history) ∙ leaves) in
      subst HaveOwnTableNames (sym m.same) (may.named m.state m.is)

  pub found_again : IsFoundAgain shared o p
  unfolding begins
  found_again = record {
    found = f;
    may = record {
      may = λ settings moment k w b same. may.may settings moment k w (begins settings moment k w b same) same;
      bytes = f.bytes;
      named = named;
    };
  }

module _ {D : Type 0} (state : D → SiteState) (possible : D → ℕ → Held → Type 0) where
  -- ---- behind that

  module _ (settings : Settings) (moment : ℕ) (o : Held) (d d' : D) (left : Held) (s : TableState) (told : (state d').held ≡ Some left) (leaves : state_of left.history ≡ Some s) (x : StopsBehind settings moment o (state d) (state d') (IsLeftOver state possible d'))
      (may : MayOpenAgain (state d).shared o) where
    may_begun : MayOpen x.begun.shared o
    may_begun = subst (λ t. MayOpen t o) (sym x.shares) may.may

    y : StopsIn (state d') (IsLeftOver state possible d') x.begun
    y = let both = may_begun settings moment x.journal x.begun x.begins refl in x.stops both.0 both.1

    stood : StoodOpening y.world []
    stood = begins_stopped settings moment o x.journal x.begun x.begins may_begun y.world y.stop y.reopens

    leads : LeadsTo x.begun y.world
    leads = reopens_lead x.begun y.world y.stop y.reopens

    abbrev was : World
    was = as_begun AtOpening (state d).moment o x.begun

    began : beginning_of x.begun.journal ≡ beginning_of (begun_here was).journal
    began =
        ap beginning_of x.begins.journal
        ∙ ap (λ (m : ℕ). Some (record { since = m; from = x.begins.from; entries = x.begins.entries })) x.starts.since
        ∙ ap (λ (n : ℕ). Some (record { since = (state d).moment; from = n; entries = x.begins.entries })) x.starts.from
        ∙ ap (λ (es : List JournalEntry). Some (record { since = (state d).moment; from = length o.history; entries = es })) (sym (ap (λ (j : Journal). j.flushed) x.begins.journal))

    points : PointsFrom (begun_here was) y.world
    points = record {
      groups = y.world.tier.groups;
      safe = stood.on.is.safe;
      backing = stood.on.is.backing;
      leaves = stood.on.is.leaves;
      reads = reopened_readable settings moment o x.journal x.begun x.begins may.named y.world y.stop y.reopens;
      began = way_on_way x.begun.journal y.world.journal leads.journal.renewals leads.journal.leads ∙ began;
      longer = longer_then o.history x.begun.history y.world.history (record { more = x.begins.others; is = x.begins.history }) leads.history;
    }

    free : FreeAt state possible y.world AskNothing
    free way so entries count point within nothing =
        let safe : IsSafeWay y.world.tier.groups y.world.shared y.world.journal.flushed y.world.history way = subst (IsSafeOn y.world.tier.groups y.world.shared y.world.journal.flushed y.world.history) so stood.on.is.safe in
        safe.apart stood.unshared entries count point within

    stopped_is_safe : LeavesSafe state possible d' was s.schema AskNothing
    stopped_is_safe = safe_from state possible d' left s told leaves was y.world AskNothing points y.at y.leaves.there y.leaves.leaves free

  early_end_is_safe : (settings : Settings) (moment : ℕ) (o : Held) (d d' : D) (left : Held) (s : TableState) → (state d').held ≡ Some left → state_of left.history ≡ Some s → MayOpenAgain (state d).shared o
      → (x : EndsEarly settings moment o (state d) (state d') (LeftSince state possible d') (IsLeftOver state possible d')) → EarlyEndIsSafe state possible d d' o s.schema settings moment x
  early_end_is_safe settings moment o d d' left s told leaves may (inl found) = λ k p lo hi here. found_again (state d).shared o p may (found k p lo hi here)
  early_end_is_safe settings moment o d d' left s told leaves may (inr x) = stopped_is_safe settings moment o d d' left s told leaves x may

  pub unopened_runs_are_safe : UnopenedRunsAreSafe state possible
  unopened_runs_are_safe status settings there left s input written written' coming coming' d d' source u sure may told leaves =
      early_end_is_safe settings u.moment there d d' left s told leaves may (u.leaves sure)

  pub unopened_imports_are_safe : UnopenedImportsAreSafe state possible
  unopened_imports_are_safe status settings there left s input written written' coming coming' d d' source u sure may told leaves =
      early_end_is_safe settings u.moment there d d' left s told leaves may (u.leaves sure)
