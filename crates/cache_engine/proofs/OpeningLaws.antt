-- An engine that is opened with its journal.
use Rattle.std.proofs.Common.{ℕ, Some, None}
use Rattle.outside.specs.Holding.{Held}
use Rattle.outside.specs.Sites.{SiteState}
use Rattle.stored_tier.specs.declared.tier.Tier.{Tier as Stored}
use Rattle.tier_journal.specs.declared.journal.TierJournal.{TierJournal}
use Rattle.tier_opening.specs.Opening.{Opens}
use Rattle.cache_engine.specs.Opening.{OpensOver}
use Rattle.stored_tier.specs.declared.clock.Pace.{Pace}

pub opens_over : {D : Type 0} (state : D → SiteState) (possible : D → ℕ → Held → Type 0) (start : ℕ) (pace : Pace) (d d' : D) (t : Stored) (k : TierJournal)
    → Opens state possible start pace d d' t k → OpensOver state possible start pace d d' (record { tier = t; doubt = None; journal = Some k })
opens_over state possible start pace d d' t k opens = λ onset o settings told have sure may ms.
    let x = opens onset o settings told have sure ms in
    let both = may settings start k x.begun x.begins x.shares in
    let p = x.opened both.0 both.1 in
    record {
      world = p.world;
      at = p.at;
      left = p.stands;
      keeps = p.keeps;
      kept = p.keeps.keeps.kept;
      opens = record { journal = k; begun = x.begun; begins = x.begins; reopens = p.reopens };
      starts = x.starts;
    }
