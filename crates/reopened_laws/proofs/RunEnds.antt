-- A run over a site leaves one that may be opened again.
use Rattle.std.proofs.Common.{◌≡◌, ℕ, suc, ◌≤◌, ◌^◌, false, Option, None, List, [], ◌∷◌, refl, sym, ap, subst, ◌∙◌}
use Rattle.std.specs.List.{list_any}
use Rattle.table_state.specs.declared.history.Sealed.{Sealed}
use Rattle.outside.specs.Holding.{Held}
use Rattle.outside.specs.Others.{is_shared}
use Rattle.cache_tier.specs.declared.reply.Reply.{Reply}
use Rattle.cache_tier.specs.Groups.{Group, is_table_of, is_writethrough}
use Rattle.cache_tier.specs.Journals.{Journal}
use Rattle.cache_tier.specs.Reading.{ReadsFirst, as_it_was, backing_at}
use Rattle.cache_tier.specs.Rounds.{Applies}
use Rattle.cache_tier.specs.Sets.{alone, changed, refreshed}
use Rattle.cache_tier.specs.Steps.{Finishes}
use Rattle.cache_tier.specs.TierStates.{Settings, Tier, opened}
use Rattle.cache_tier.specs.Worlds.{Becomes, IsUnshared, OnlyWhere, World}
use Rattle.cache_tier.proofs.LeadLaws.{StageLeads, applies_leads, becomes_leads, only_where_leads, passes_leads, reads_first_leads, same_number, then_stage_leads}
use Rattle.recovery.specs.Journalled.{IsJournalledOn}
use Rattle.recovery.specs.Recalling.{AreMatched, RecallsAll}
use Rattle.recovery.specs.Reopening.{HoldAgain, HoldsAgainAt, IsReopened, Reloads, Reopens, ViewsAgain, holding, is_held_again, is_viewed_again}
use Rattle.line_laws.specs.Keeping.{is_broken}
use Rattle.recovery.proofs.OthersLaws.{on_then}
use Rattle.line_laws.proofs.FlushLaws.{IsWhole, kept_flushes, tail_flushed}
use Rattle.run_laws.specs.Lines.{MayBegin, MayGoOn}
use Rattle.run_laws.specs.Runs.{IsKeptOf, Reopened, StoodOpening}
use Rattle.run_laws.proofs.LineLaws.{step_kept, step_kinds}
use Rattle.run_laws.proofs.ReopenLaws.{reopened_kept, stood_kept}
use Rattle.run_laws.proofs.RunKeeps.{ticket_left}
use Rattle.tier_journal.specs.declared.journal.TierJournal.{TierJournal}
use Rattle.tier_opening.specs.Opening.{BeginsIn, MayOpen, begun_tier}
use Rattle.cache_engine.specs.Opening.{Opens}
use Rattle.cache_engine.specs.Requests.{Given, LineRun, LineStep}
use Rattle.reopened_laws.specs.Leaving.{GoesOnThrough, IsLeftAt}
use Rattle.reopened_laws.proofs.BegunLaws.{safe_way}
use Rattle.reopened_laws.proofs.SiteLaws.{may_open, site_may_open}

-- ---- what the opening leads to

abbrev viewed : ℕ → World → Tier
viewed n v = refreshed is_viewed_again n (backing_at v n) v.tier

abbrev held : ℕ → ℕ → World → Tier
held place n v = changed (alone place) (holding (backing_at v n)) v.tier

reads_lead : (next : ℕ → World → Tier) → ((n : ℕ) (v : World) → v.tier.next ≤ (next n v).next) → StageLeads (ReadsFirst as_it_was (λ n. Becomes (next n)))
reads_lead next keeps = reads_first_leads as_it_was (λ n. Becomes (next n)) (λ t. same_number t.next) (λ n. becomes_leads (next n) (keeps n))

views_lead : StageLeads ViewsAgain
views_lead w w' stop q = only_where_leads (list_any (is_viewed_again 0) w.tier.groups) (ReadsFirst as_it_was (λ n. Becomes (viewed n))) (reads_lead viewed (λ n v. same_number v.tier.next)) w w' stop q

holds_lead : (place : ℕ) → StageLeads (HoldsAgainAt place)
holds_lead place w w' stop q = reads_lead (held place) (λ n v. same_number v.tier.next) w w' stop q

hold_leads : (place : ℕ) (groups : List Group) → StageLeads (HoldAgain place groups)
hold_leads place [] = passes_leads
hold_leads place (g ∷ groups) =
    then_stage_leads (OnlyWhere (is_held_again g) (HoldsAgainAt place)) (HoldAgain (suc place) groups)
    (only_where_leads (is_held_again g) (HoldsAgainAt place) (holds_lead place)) (hold_leads (suc place) groups)

reloads_lead : StageLeads Reloads
reloads_lead w w' stop q = then_stage_leads ViewsAgain (HoldAgain 0 w.tier.groups) views_lead (hold_leads 0 w.tier.groups) w w' stop q

pub reopens_lead : StageLeads Reopens
reopens_lead = then_stage_leads Applies Reloads applies_leads reloads_lead

-- ---- where the run begins

-- the world in which a tier begins, over a journal that was found
module _ (settings : Settings) (moment : ℕ) (there : Held) (k : TierJournal) (begun : World) (b : BeginsIn settings moment there k begun) (may : MayOpen begun.shared there) where
  both : AreMatched b.entries begun.history × IsUnshared begun
  both = may settings moment k begun b refl

  schema : both.0.backing.schema ≡ b.schema
  schema = b.known both.0.backing both.0.leaves

  -- whatever end the opening comes to
  is : (w : World) (stop : Option Reply) → Reopens begun w stop → IsReopened settings moment b.entries begun w stop
  is w stop does = record {
    matched = both.0;
    catalog = b.catalog;
    recalls = subst (λ s. RecallsAll b.entries (opened settings moment s) b.catalog) (sym schema) b.recalls;
    tier = b.tier ∙ ap (λ s. begun_tier s b.entries begun.history b.catalog) (sym schema);
    does = does;
  }

  kept : IsKeptOf b.entries begun
  kept = record {
    kept = ap (λ (k : Journal). k.kept) b.journal;
    flushed = ap (λ (k : Journal). k.flushed) b.journal;
    tail = ap (λ (k : Journal). k.tail) b.journal;
    way = safe_way settings moment there k begun b may;
  }

  pub begins_opened : (w : World) → Reopens begun w None → Reopened w []
  begins_opened w does = reopened_kept settings moment b.entries begun w [] (is w None does) kept tt both.1

  pub begins_stopped : (w : World) (stop : Option Reply) → Reopens begun w stop → StoodOpening w []
  begins_stopped w stop does = stood_kept settings moment b.entries begun w [] stop (is w stop does) kept tt both.1

-- and of an engine that was opened
pub begins_again : (settings : Settings) (moment : ℕ) (there : Held) (w : World) (x : Opens settings moment there w) → MayOpen w.shared there → Reopened w []
begins_again settings moment there w x may =
    begins_opened settings moment there x.journal x.begun x.begins (subst (λ s. MayOpen s there) (reopens_lead x.begun w None x.reopens).shared may) w x.reopens

-- ---- through the lines

pub record Reached (w : World) (early : List Sealed) : Type 0 where
  pub begins : MayBegin w
  pub on : IsJournalledOn w early

-- one line more
pub reached_on : (w : World) (g : Given) (reply : Option Reply) (early : List Sealed) (mid : World) → MayBegin w → IsJournalledOn w early → LineStep g.base w g.bytes mid reply → MayGoOn mid → is_broken reply ≡ false → Reached mid early
reached_on w g reply early mid m on step goes whole = record { begins = begins; on = further }
  where
    here : IsJournalledOn mid on.now
    here = step_kept g.base w mid step.0 reply on.now m on.is goes.left whole step.2

    further : IsJournalledOn mid early
    further = on_then mid early on.now on.more on.grows here

    begins : MayBegin mid
    begins = record { goes_on = goes; kinds = step_kinds g.base w mid step.0 reply on.now m on.is goes.left whole step.2 }

reached : (w ran : World) (lines : List Given) (replies : List (Option Reply)) (early : List Sealed) → MayBegin w → IsJournalledOn w early → (run : LineRun w lines replies ran) → GoesOnThrough w lines replies ran run → Reached ran early
reached w ran [] [] early m on run goes = subst (λ v. Reached v early) (sym run) (record { begins = m; on = on })
reached w ran [] (reply ∷ replies) early m on run goes = absurd run
reached w ran (g ∷ lines) [] early m on run goes = absurd run
reached w ran (g ∷ lines) (reply ∷ replies) early m on run goes =
    let mid = reached_on w g reply early run.0 m on run.1 goes.0 goes.1 in
    reached run.0 ran lines replies early mid.begins mid.on run.2 goes.2

-- ---- behind the end

ends : (ran last : World) (early : List Sealed) (o : Held) → Reached ran early → Finishes ran last None → IsLeftAt o last → MayOpen last.shared o
ends ran last early o r finishes site = may_open last on.now o cap on.is apart site
  where
    whole : IsWhole [] ran last
    whole = (kept_flushes [] ran last None r.on.is.kept finishes refl).0

    on : IsJournalledOn last r.on.now
    on = tail_flushed ran last r.on.now r.on.is whole

    cap : last.tier.next ≤ 2 ^ 63
    cap = subst (λ (t : Tier). t.next ≤ 2 ^ 63) (sym whole.tier) (ticket_left ran r.begins.goes_on.left)

    apart : IsUnshared last
    apart t e = ap (λ (x : Tier). is_table_of is_writethrough x.groups t) whole.tier ∙ r.begins.goes_on.unshared t (ap (λ s. is_shared s t) (sym whole.shared) ∙ e)

-- ---- the whole run

module _ (settings : Settings) (moment : ℕ) (there o : Held) (w ran : World) (lines : List Given) (replies : List (Option Reply)) (x : Opens settings moment there w) (may : MayOpen w.shared there) (goes_on : MayGoOn w) (run : LineRun w lines replies ran) (goes : GoesOnThrough w lines replies ran run) where
  again : Reopened w []
  again = begins_again settings moment there w x may

  led : Reached ran []
  led = reached w ran lines replies [] (record { goes_on = goes_on; kinds = again.kinds }) again.on run goes

  pub run_leaves : (last : World) → Finishes ran last None → IsLeftAt o last → MayOpen last.shared o
  run_leaves last finishes site = ends ran last [] o led finishes site

  -- nothing is flushed at its end
  pub rests_leave : IsUnshared ran → IsLeftAt o ran → MayOpen ran.shared o
  rests_leave apart site = site_may_open ran led.on.now o led.begins.goes_on.left led.on.is apart site
