-- The journal beside a tier, over a disk, as a world has it. (This project's model.)

use Rattle.std.specs.Prelude.{◌≡◌, ℕ, ◌≤◌, List, [], Bool, true, false, Option, Some, None, Result, Ok, Err}
use Rattle.table_state.specs.declared.history.Entry.{Entry}
use Rattle.tier_base.specs.declared.code.Code.TheVariants as code
use Rattle.outside.specs.Calls.{Certain}
use Rattle.outside.specs.Faults.{Rose}
use Rattle.outside.specs.Holding.{Held}
use Rattle.outside.specs.Sites.{SiteState}
use Rattle.cache_tier.specs.declared.reply.Reply.{Reply}
use Rattle.cache_tier.specs.Journals.{Journal, JournalEntry}
use Rattle.cache_tier.specs.Steps.{tells}
use Rattle.cache_tier.specs.Worlds.{Stage, World}
use Rattle.tier_journal.specs.declared.journal.TierJournal.{TierJournal}
use Rattle.tier_journal.specs.Keeping.{Keeps, version_in}
use Rattle.tier_journal.specs.declared.draft.Draft.{Draft}
use Rattle.tier_journal.specs.Drafts.{IsDraftOf}
use Rattle.tier_journal.specs.Ways.{LeavesOnWay}

-- The journal has the world's entries, over a certain disk, in a slot that takes every number. Where a way is asked
-- for, a crash since it began leaves a point of it.
pub record IsOver {D : Type 0} (state : D → SiteState) (possible : D → ℕ → Held → Type 0) (d : D) (t : TierJournal)
    (w : World) : Type 0 where
  pub there : Held
  pub certain : Certain state possible d there
  pub keeps : Keeps w.tier.schema t there.slots w.journal
  pub version : version_in t ≡ 2
  pub leaves : LeavesOnWay state possible d there w w.journal.way

-- so it is where a journal is kept; else the world has none
abbrev pub KeepsOver : {D : Type 0} → (D → SiteState) → (D → ℕ → Held → Type 0) → D → Option TierJournal → World
    → Type 0
KeepsOver state possible d None w = w.journal.kept ≡ false
KeepsOver state possible d (Some t) w = IsOver state possible d t w

-- the reply with which a stage ends the line, where it does
abbrev pub stop_of : Result (Unit {0}) Reply → Option Reply
stop_of (Ok done) = None
stop_of (Err reply) = Some reply

-- a failed call of the disk is told, and the run is to end
abbrev pub is_broken : Option Reply → Bool
is_broken None = false
is_broken (Some reply) = tells code.JournalFault reply.last

-- The site tells what it holds; and where a way is asked for, a crash since it began leaves a point of it.
pub record IsLeftOver {D : Type 0} (state : D → SiteState) (possible : D → ℕ → Held → Type 0) (d : D) (w : World)
    : Type 0 where
  pub there : Held
  pub told : (state d).held ≡ Some there
  pub leaves : LeavesOnWay state possible d there w w.journal.way

-- so it is where a journal is kept; else the world has none
abbrev pub LeavesOver : {D : Type 0} → (D → SiteState) → (D → ℕ → Held → Type 0) → D → Option TierJournal → World
    → Type 0
LeavesOver state possible d None w = w.journal.kept ≡ false
LeavesOver state possible d (Some t) w = IsLeftOver state possible d w

-- Behind what may have ended the run: a crash leaves a point of the journal's way, and unless a call of the disk failed
-- the journal is kept over it.
pub record KeepsUnlessBroken {D : Type 0} (state : D → SiteState) (possible : D → ℕ → Held → Type 0) (d : D)
    (stop : Option Reply) (k : Option TierJournal) (w : World) : Type 0 where
  pub leaves : LeavesOver state possible d k w
  pub over : is_broken stop ≡ false → KeepsOver state possible d k w

-- the world with another journal, and other counts
abbrev pub over_disk : Journal → ℕ → ℕ → World → World
over_disk journal faults moment w = record w { journal = journal; disk_faults = faults; moment = moment }

-- the site tells a history still, the same
pub record TellsSame (held : Option Held) (history : List Entry) : Type 0 where
  pub there : Held
  pub told : held ≡ Some there
  pub same : there.history ≡ history

-- The world's journal is written to by this stage, and nothing else of the world changes. A crash leaves a point of its
-- way; unless a call of the disk failed, the journal has the entries that the world's has then.
pub record IsWrittenOver {D : Type 0} (state : D → SiteState) (possible : D → ℕ → Held → Type 0)
    (k : Option TierJournal) (d d' : D) (stop : Option Reply) (stage : Stage) (w : World) : Type 0 where
  pub journal : Journal
  pub faults : ℕ
  pub later : (state d).moment ≤ (state d').moment
  pub told : (o : Held) → (state d).held ≡ Some o → TellsSame (state d').held o.history
  pub is : stage w (over_disk journal faults (state d').moment w) stop
  pub keeps : KeepsUnlessBroken state possible d' stop k (over_disk journal faults (state d').moment w)

-- so it is in each world of this moment, whose journal is kept over the disk
abbrev pub WritesOver : {D : Type 0} → (D → SiteState) → (D → ℕ → Held → Type 0) → Option TierJournal
    → Option TierJournal → D → D → Option Reply → Stage → Type 0
WritesOver state possible old new d d' stop stage =
    (w : World) → w.moment ≡ (state d).moment → KeepsOver state possible d old w
    → IsWrittenOver state possible new d d' stop stage w

-- the same in each of them for whose schema the entry was made ready
abbrev pub WritesDraft : {D : Type 0} → (D → SiteState) → (D → ℕ → Held → Type 0) → Option TierJournal
    → Option TierJournal → D → D → Draft → JournalEntry → Option Reply → Stage → Type 0
WritesDraft state possible old new d d' draft e stop stage =
    (w : World) → w.moment ≡ (state d).moment → KeepsOver state possible d old w → IsDraftOf w.tier.schema old draft e
    → IsWrittenOver state possible new d d' stop stage w

-- the reply with which a stage ends has no notes, and tells no fault of the bank
abbrev pub IsOfDisk : Option Reply → Type 0
IsOfDisk None = Unit {0}
IsOfDisk (Some reply) = (reply.notes ≡ []) × (tells code.BackingFault reply.last ≡ false)

-- Nothing is called where no journal is kept. The moment and the disk's count of faults don't fall, and it rose where a
-- fault is told; the bank's stays, and so does what others change.
pub record DiskIsCaused (k : Option TierJournal) (old new : SiteState) (stop : Option Reply) : Type 0 where
  pub uncalled : k ≡ None → new ≡ old
  pub whole : k ≡ None → is_broken stop ≡ false
  pub moment : old.moment ≤ new.moment
  pub later : old.disk_faults ≤ new.disk_faults
  pub told : IsOfDisk stop
  pub failed : is_broken stop ≡ true → Rose old.disk_faults new.disk_faults
  pub bank : new.bank_faults ≡ old.bank_faults
  pub shared : new.shared ≡ old.shared
