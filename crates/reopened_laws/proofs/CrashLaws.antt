-- Whatever a crash between two lines leaves of the site may be opened.
use Rattle.std.proofs.Common.{◌≡◌, ℕ, true, false, Option, Some, None, List, [], ◌∷◌, sym, ap, subst, ◌∙◌}
use Rattle.table_state.specs.declared.history.Sealed.{Sealed}
use Rattle.table_state.specs.Histories.{state_of}
use Rattle.outside.specs.Holding.{Held}
use Rattle.outside.specs.Sites.{SiteState}
use Rattle.cache_tier.specs.declared.reply.Reply.{Reply}
use Rattle.cache_tier.specs.Worlds.{IsUnshared, World}
use Rattle.cache_engine.specs.Requests.{Given, LineRun}
use Rattle.tier_journal.specs.KeptOver.{IsOver, KeepsOver}
use Rattle.run_laws.specs.Runs.{Reopened}
use Rattle.tier_journal.specs.declared.journal.TierJournal.{TierJournal}
use Rattle.session_cli.specs.Outside.{WasKept}
use Rattle.session_cli.specs.Serving.{GoesOn, WasLeft}
use Rattle.reopened_laws.specs.Ending.{CrashesLeaveSites, CrashesMayOpen, MayOpenAfterCrash, MayOpenAgain}
use Rattle.reopened_laws.specs.Leaving.{IsKeptAt}
use Rattle.reopened_laws.proofs.HandedOn.{left_first, may_go_on, whole_too}
use Rattle.reopened_laws.proofs.ReadOpenings.{opened_readable}
use Rattle.reopened_laws.proofs.ReadParts.{Readable}
use Rattle.reopened_laws.proofs.ReadRuns.{IsReadable, line_keeps, readable_told, run_keeps}
use Rattle.reopened_laws.proofs.RunEnds.{Reached, begins_again, reached_on}
use Rattle.reopened_laws.proofs.SchemaLaws.{front_told}
use Rattle.reopened_laws.proofs.SiteLaws.{site_may_open}
use Rattle.commit_journal.proofs.TailLaws.{rest_bytes}
use Rattle.reopened_laws.proofs.SlotLaws.{left_at}

pub same_held : (told : Option Held) (a b : Held) → told ≡ Some a → told ≡ Some b → a ≡ b
same_held told a b x y = one (sym x ∙ y)
  where
    one : Some a ≡ Some b → a ≡ b
    one e = cc

never_kept : true ≡ false → ⊥
never_kept e = cc

module _ {D : Type 0} (state : D → SiteState) (possible : D → ℕ → Held → Type 0) where
  -- a journal is kept there
  pub over_of : (d : D) (k : Option TierJournal) (w : World) → w.journal.kept ≡ true → KeepsOver state possible d k w → (t : TierJournal) × IsOver state possible d t w
  over_of d None w kept none = absurd (never_kept (sym kept ∙ none))
  over_of d (Some t) w kept x = (t, x)

  module _ (w : World) (early : List Sealed) (r : Reached w early) (x : WasLeft (WasKept state possible) w) (apart : IsUnshared w) (reads : IsReadable w) where
    abbrev is : (t : TierJournal) × IsOver state possible x.over.site t w
    is = over_of x.over.site x.over.is.journal w x.kept x.over.is.keeps

    abbrev there : Held
    there = is.1.there

    history : there.history ≡ w.history
    history = ap (λ (h : Held). h.history) (same_held (state x.over.site).held there x.over.is.at.there is.1.certain.told x.over.is.at.told) ∙ sym x.over.is.at.history

    kept_there : IsKeptAt there w
    kept_there = record {
      history = history;
      journal = is.0;
      keeps = is.1.keeps;
      texts = reads.texts;
      front = front_told w r.begins.goes_on.left;
      named = reads.named;
    }

    opens_there : MayOpenAgain w.shared there
    opens_there = record {
      may = site_may_open w r.on.now there r.begins.goes_on.left r.on.is apart (left_at there w kept_there);
      bytes = rest_bytes is.0.journal there.slots _ _ is.1.keeps.rests;
      named = λ s leaves. reads.named s (ap state_of (sym history) ∙ leaves);
    }

    crash_here : MayOpenAfterCrash state possible w x
    crash_here p may = subst (MayOpenAgain w.shared) (sym (is.1.certain.only p may)) opens_there

  crashes : (w : World) (lines : List Given) (replies : List (Option Reply)) (w' : World) (early : List Sealed) → Readable w → (IsUnshared w → Reached w early) → (run : LineRun w lines replies w') (goes : GoesOn (WasKept state possible) w lines replies w' run)
      → CrashesMayOpen state possible w lines replies w' run goes
  crashes w [] [] w' early reads reach run goes =
      λ apart. crash_here w' early (subst (λ v. Reached v early) (sym run) (reach (subst IsUnshared run apart))) goes apart (readable_told w' (run_keeps w [] [] w' run reads))
  crashes w [] (reply ∷ replies) w' early reads reach run goes = tt
  crashes w (g ∷ lines) [] w' early reads reach run goes = tt
  crashes w (g ∷ lines) (reply ∷ replies) w' early reads reach run goes =
      let r = reach goes.1 in (
        crash_here w early r goes.0 goes.1 (readable_told w reads),
        crashes run.0 lines replies w' early (line_keeps g.base w g.bytes run.0 reply run.1 reads)
            (λ apart. reached_on w g reply early run.0 r.begins r.on run.1 (may_go_on (WasKept state possible) run.0 (left_first (WasKept state possible) run.0 lines replies w' run.2 goes.3) apart) (whole_too reply goes.2)) run.2 goes.3,
      )

  pub crashes_leave_sites : CrashesLeaveSites state possible
  crashes_leave_sites settings moment there w w' lines replies run x may goes =
      let again : Reopened w [] = begins_again settings moment there w x may.may in
      crashes w lines replies w' [] (opened_readable settings moment there w x may.named)
      (λ apart. record {
        begins = record { goes_on = may_go_on (WasKept state possible) w (left_first (WasKept state possible) w lines replies w' run goes) apart; kinds = again.kinds };
        on = again.on;
      })
      run goes
