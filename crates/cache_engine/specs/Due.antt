-- What the outside is asked by work that is due. (This project's rule.)

use Rattle.std.specs.Prelude.{◌≡◌, ◌≤◌, ◌+◌, ℕ, Option, Some, None, count_by}
use Rattle.tier_base.specs.declared.code.Code.{Code}
use Rattle.tier_base.specs.declared.code.Code.TheVariants as code
use Rattle.cache_tier.specs.Steps.{Rose, faults_in, note_tells}
use Rattle.cache_tier.specs.declared.reply.Reply.{Reply}
use Rattle.cache_engine.specs.declared.due.Due.{Due}
use Rattle.stored_tier.specs.Performing.{KeepsSlots}
use Rattle.outside.specs.Sites.{SiteState}
use Rattle.tier_journal.specs.declared.journal.TierJournal.{TierJournal}

-- how many faults of a code the reply tells that ends the line
abbrev pub stop_faults : Code → Option Reply → ℕ
stop_faults c None = 0
stop_faults c (Some reply) = faults_in c reply

-- Counts and moments don't fall, and what others change stays; the slots do where no journal is kept. Each fault of the
-- bank that is noted, or told by the reply that ends the line, has a failed call of its own. A fault of the journal is
-- told only by the reply that ends the line, and only where a journal is kept and the count of the disk's faults rose.
pub record IsDueCaused (k : Option TierJournal) (before behind : SiteState) (due : Due) : Type 0 where
  pub later : before.bank_faults ≤ behind.bank_faults
  pub moment : before.moment ≤ behind.moment
  pub shares : behind.shared ≡ before.shared
  pub slots : k ≡ None → KeepsSlots before.held behind.held
  pub bank :
      Rose before.bank_faults
      (count_by (note_tells code.BackingFault) due.notes + stop_faults code.BackingFault due.stop) behind.bank_faults
  pub disk : count_by (note_tells code.JournalFault) due.notes ≡ 0
  pub stop : Rose before.disk_faults (stop_faults code.JournalFault due.stop) behind.disk_faults
  pub whole : k ≡ None → stop_faults code.JournalFault due.stop ≡ 0
