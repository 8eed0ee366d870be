-- Entries that are made ready for the journal before a statement on a group changes anything. (This project's rule.)

use Rattle.std.specs.Prelude.{◌≡◌, ℕ, List, [], ◌∷◌, Bool, true, false, Option, Some, None, Result, Ok, Err}
use Rattle.row_types.specs.declared.rule.Refused.{Refused}
use Rattle.row_types.specs.declared.rule.Refused.TheVariants as refused
use Rattle.table_defs.specs.declared.definition.TableDef.{TableDef}
use Rattle.outside.specs.Holding.{Held}
use Rattle.outside.specs.Sites.{SiteState}
use Rattle.cache_tier.specs.declared.reply.Reply.{Reply}
use Rattle.cache_tier.specs.Events.{with_tier}
use Rattle.cache_tier.specs.Journals.{Journal, JournalEntry}
use Rattle.cache_tier.specs.JournalSteps.{FlushesSome, has_entries}
use Rattle.cache_tier.specs.Reading.{Answers}
use Rattle.cache_tier.specs.Worlds.{Answer, Then, World}
use Rattle.tier_journal.specs.declared.batch.Batch.{Batch}
use Rattle.tier_journal.specs.declared.journal.TierJournal.{TierJournal}
use Rattle.tier_journal.specs.Batches.{Holds}
use Rattle.tier_journal.specs.Keeping.{HasRoomFor, IsBehind, IsTooMuch}
use Rattle.tier_journal.specs.declared.draft.Draft.{Draft}
use Rattle.tier_journal.specs.Drafts.{IsDraftOf, IsPlaced, is_full_draft}
use Rattle.tier_journal.specs.KeptOver.{IsWrittenOver, KeepsOver, over_disk}
use Rattle.stored_tier.specs.declared.tier.Tier.{Tier as Stored}
use Rattle.stored_tier.specs.Performing.{IsPerformedOver, StandsFor}
use Rattle.stored_tier.specs.Sites.{IsAt}
use Rattle.group_engine.specs.declared.ready.Ready.{Ready}
use Rattle.group_engine.specs.declared.ready.Ready.TheVariants.{Both, Full, Nothing, One}

abbrev pub is_full_ready : Ready → Bool
is_full_ready Nothing = false
is_full_ready (One draft) = is_full_draft draft
is_full_ready (Both b) = false
is_full_ready Full = true

-- the one entry was made ready so
pub record IsOne (schema : List TableDef) (k : Option TierJournal) (draft : Draft) (entries : List JournalEntry)
    : Type 0 where
  pub entry : JournalEntry
  pub is : entries ≡ entry ∷ []
  pub of : IsDraftOf schema k draft entry

-- the batch has these entries, and there is room for it behind the journal's
pub record FitsAll (schema : List TableDef) (t : TierJournal) (b : Batch) (entries : List JournalEntry) : Type 0 where
  pub room : HasRoomFor t b
  pub place : IsBehind t b
  pub holds : Holds 2 schema b entries
  pub some : has_entries entries ≡ true

-- the journal is full for these entries
pub record OverfillsAll (schema : List TableDef) (t : TierJournal) (entries : List JournalEntry) : Type 0 where
  pub batch : Batch
  pub holds : Holds 2 schema batch entries
  pub much : IsTooMuch t batch
  pub some : has_entries entries ≡ true

-- These entries were made ready so for a journal, or for none. Where there are none, nothing was.
abbrev pub IsReadyFor : List TableDef → Option TierJournal → Ready → List JournalEntry → Type 0
IsReadyFor schema k ready entries = by ready k
  where
    by : Ready → Option TierJournal → Type 0
    by Nothing None = Unit {0}
    by Nothing (Some t) = has_entries entries ≡ false
    by (One draft) j = IsOne schema j draft entries
    by (Both b) None = ⊥
    by (Both b) (Some t) = FitsAll schema t b entries
    by Full None = ⊥
    by Full (Some t) = OverfillsAll schema t entries

-- there is room for what was made ready
abbrev pub IsPlacedReady : Option TierJournal → Ready → Type 0
IsPlacedReady k ready = by ready k
  where
    by : Ready → Option TierJournal → Type 0
    by Nothing j = Unit {0}
    by (One draft) j = IsPlaced j draft
    by (Both b) None = ⊥
    by (Both b) (Some t) = HasRoomFor t b × IsBehind t b
    by Full None = ⊥
    by Full (Some t) = Unit {0}

-- what is made of a batch behind the journal's entries, which has these
abbrev pub FillsAll : TierJournal → TierJournal → Batch → Ready → Type 0
FillsAll old new b ready =
    (schema : List TableDef) (entries : List JournalEntry) → IsBehind old b → Holds 2 schema b entries
    → has_entries entries ≡ true → IsReadyFor schema (Some new) ready entries

-- the flush of what was made ready, in each world of this moment, whose journal is kept over the disk
abbrev pub WritesReady : {D : Type 0} → (D → SiteState) → (D → ℕ → Held → Type 0) → Option TierJournal
    → Option TierJournal → D → D → Ready → Option Reply → Type 0
WritesReady state possible old new d d' ready stop =
    (w : World) (entries : List JournalEntry) → w.moment ≡ (state d).moment → KeepsOver state possible d old w
    → IsReadyFor w.tier.schema old ready entries
    → IsWrittenOver state possible new d d' stop (FlushesSome entries) w

-- journal, counts and moment play no part in the answer
abbrev pub IgnoresDisk : (World → Answer) → World → Type 0
IgnoresDisk answer w = (j : Journal) (faults moment : ℕ) → answer (over_disk j faults moment w) ≡ answer w

-- What was made ready is flushed, and the tier answers: in each world at the site, whose journal is kept over the disk,
-- where the new tier stands for the world with what the answer makes of its tier.
abbrev pub AnswersBehind : {D : Type 0} → (D → SiteState) → (D → ℕ → Held → Type 0) → Option TierJournal
    → Option TierJournal → D → D → Ready → Reply → Reply → Type 0
AnswersBehind state possible old new d d' ready told reply =
    (t : Stored) (w : World) (entries : List JournalEntry) (answer : World → Answer) → IsAt (state d) w
    → KeepsOver state possible d old w → IsReadyFor w.tier.schema old ready entries
    → StandsFor t (with_tier (answer w).0 w) → (answer w).0.schema ≡ w.tier.schema → IgnoresDisk answer w
    → told ≡ (answer w).1
    → IsPerformedOver state possible t new d' (Some reply)
    (λ w'. Then (FlushesSome entries) (Answers answer) w w' reply)

-- it fails for want of memory alone
abbrev pub IsMemoryOf : {T : Type 0} → Result T Refused → Type 0
IsMemoryOf (Ok x) = Unit {0}
IsMemoryOf (Err e) = e ≡ refused.Memory
