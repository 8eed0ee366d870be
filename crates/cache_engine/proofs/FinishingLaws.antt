-- The end of the input.
use Rattle.std.proofs.Common.{ℕ, Option, []}
use Rattle.outside.specs.Holding.{Held}
use Rattle.outside.specs.Sites.{SiteState}
use Rattle.cache_tier.specs.JournalSteps.{Flushes}
use Rattle.cache_tier.specs.declared.reply.Reply.{Reply}
use Rattle.tier_journal.specs.declared.journal.TierJournal.{TierJournal}
use Rattle.tier_journal.specs.KeptOver.{DiskIsCaused, WritesOver}
use Rattle.stored_tier.proofs.OverLaws.{at_written}
use Rattle.cache_engine.specs.Finishing.{FinishesOver}

module _ {D : Type 0} (state : D → SiteState) (possible : D → ℕ → Held → Type 0) where
  pub finished : (k k' : Option TierJournal) (d d' : D) (stop : Option Reply) → WritesOver state possible k k' d d' stop (Flushes []) → DiskIsCaused k (state d) (state d') stop → FinishesOver state possible k k' d d' stop
  finished k k' d d' stop writes caused = λ w at keeps.
      let x = writes w at.moment keeps in
      record {
        journal = x.journal;
        faults = x.faults;
        at = at_written state possible k' d d' w stop (Flushes []) at x caused.bank caused.shared;
        is = x.is;
        keeps = x.keeps;
      }
