-- A site whose slots say what a journal has flushed may be opened again.
use Rattle.std.proofs.Common.{◌≡◌, ℕ, ◌≤◌, ◌^◌, List, ◌++◌, sym, ap, subst, ◌∙◌}
use Rattle.table_state.specs.declared.history.Sealed.{Sealed}
use Rattle.table_state.specs.Copies.{is_one_of}
use Rattle.table_state.specs.Histories.{state_of}
use Rattle.order_laws.specs.Standing.{live_tables}
use Rattle.outside.specs.Holding.{Held}
use Rattle.outside.specs.Others.{AreOthers, is_shared}
use Rattle.cache_tier.specs.Events.{at_history}
use Rattle.cache_tier.specs.Groups.{is_table_of, is_writethrough}
use Rattle.cache_tier.specs.TierStates.{Settings, Tier, opened}
use Rattle.cache_tier.specs.Worlds.{IsUnshared, World}
use Rattle.recovery_laws.specs.Matching.{IsMatched}
use Rattle.recovery_laws.specs.Notes.{Note, catalog_of}
use Rattle.recovery.specs.Journalled.{CrashLeaves, IsJournalled, IsJournalledOn}
use Rattle.recovery.specs.Recalling.{AreMatched, RecallsAll, notes_of}
use Rattle.recovery.proofs.FoldLaws.{IsFolded}
use Rattle.recovery.proofs.LiveLaws.{alike_table}
use Rattle.recovery.proofs.LeftLaws.{crash_leaves}
use Rattle.recovery.proofs.NewestLaws.{newest, newest_has, plain, seconds}
use Rattle.recovery.proofs.OthersLaws.{others_kept}
use Rattle.recovery.proofs.RecalledLaws.{folded}
use Rattle.line_laws.proofs.OtherLaws.{others_schema}
use Rattle.line_laws.proofs.PartWords.{still_quiet}
use Rattle.run_laws.specs.Lines.{IsLeft}
use Rattle.run_laws.proofs.RunKeeps.{ticket_left}
use Rattle.tier_journal.specs.declared.journal.TierJournal.{TierJournal}
use Rattle.tier_opening.specs.Opening.{BeginsIn, MayOpen, Say}
use Rattle.reopened_laws.specs.Leaving.{IsLeftAt, ReadBack}
use Rattle.reopened_laws.proofs.SaidLaws.{behind_same, notes_same}

module _ (w : World) (early : List Sealed) (o : Held) (cap : w.tier.next ≤ 2 ^ 63) (j : IsJournalled w early) (apart : IsUnshared w) (site : IsLeftAt o w) (settings : Settings) (moment : ℕ) (k : TierJournal) (v : World) (b : BeginsIn settings moment o k v) (same : v.shared ≡ w.shared) where
  came : AreOthers w.shared w.history b.others
  came = subst (λ s. AreOthers s w.history b.others) same (subst (λ h. AreOthers v.shared h b.others) site.history b.came)

  history : v.history ≡ w.history ++ b.others
  history = b.history ∙ ap (λ h. h ++ b.others) site.history

  later : IsJournalledOn (at_history (w.history ++ b.others) w) early
  later = others_kept w early b.others w.tier j apart came (still_quiet w.tier)

  left : CrashLeaves (at_history (w.history ++ b.others) w) later.now settings moment
  left = crash_leaves (at_history (w.history ++ b.others) w) later.now settings moment cap later.is

  schema : left.matched.backing.schema ≡ b.schema
  schema = b.known left.matched.backing (ap state_of history ∙ left.matched.leaves)

  first : j.backing.schema ≡ b.schema
  first = sym (others_schema w.shared b.others w.history j.backing left.matched.backing j.leaves came left.matched.leaves) ∙ schema

  said : ReadBack w.journal.flushed b.entries
  said = site.says j.backing b.entries j.leaves (subst (λ s. Say s o.slots b.entries) (sym first) b.say)

  notes : notes_of left.matched.backing.schema b.entries ≡ notes_of left.matched.backing.schema w.journal.flushed
  notes = notes_same left.matched.backing.schema w.journal.flushed b.entries said

  pub matched : AreMatched b.entries v.history
  matched = record {
    backing = left.matched.backing;
    leaves = ap state_of history ∙ left.matched.leaves;
    matched =
        subst (IsMatched (notes_of left.matched.backing.schema b.entries)) (sym history)
        (subst (λ (n : List Note). IsMatched n (w.history ++ b.others)) (sym notes) left.matched.matched);
    last = subst (λ n. n ≤ 2 ^ 63) (sym (behind_same 1 w.journal.flushed b.entries said)) left.matched.last;
  }

  ours : IsFolded left.matched.backing.schema b.catalog (catalog_of (notes_of left.matched.backing.schema b.entries))
  unfolding matched
  ours = folded b.entries v.history settings moment b.catalog matched (subst (λ s. RecallsAll b.entries (opened settings moment s) b.catalog) (sym schema) b.recalls)

  theirs : IsFolded left.matched.backing.schema left.catalog (catalog_of (notes_of left.matched.backing.schema w.journal.flushed))
  theirs = folded w.journal.flushed (w.history ++ b.others) settings moment left.catalog left.matched left.recalls

  groups : newest b.catalog.groups ≡ newest left.catalog.groups
  groups = sym ours.pairs ∙ ap (λ (n : List Note). plain (catalog_of n).groups) notes ∙ theirs.pairs

  pub unshared : IsUnshared v
  unshared t e =
      ap (λ (x : Tier). is_table_of is_writethrough x.groups t) b.tier
      ∙ sym (newest_has b.catalog.groups t)
      ∙ ap (λ l. is_one_of (live_tables (seconds l)) t) groups
      ∙ newest_has left.catalog.groups t
      ∙ alike_table left.catalog.groups w.tier.groups t left.alike
      ∙ apart t (ap (λ s. is_shared s t) (sym same) ∙ e)

pub may_open : (w : World) (early : List Sealed) (o : Held) → w.tier.next ≤ 2 ^ 63 → IsJournalled w early → IsUnshared w → IsLeftAt o w → MayOpen w.shared o
may_open w early o cap j apart site settings moment k v b same = (matched w early o cap j apart site settings moment k v b same, unshared w early o cap j apart site settings moment k v b same)

pub site_may_open : (w : World) (early : List Sealed) (o : Held) → IsLeft w → IsJournalled w early → IsUnshared w → IsLeftAt o w → MayOpen w.shared o
site_may_open w early o left j apart site = may_open w early o (ticket_left w left) j apart site
