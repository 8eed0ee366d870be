use Rattle.std.proofs.Common.{refl}
use Rattle.cache_tier.specs.Journals.{Marks}
use Rattle.tier_journal.proofs.batch.Batch.with_mark.Goals as goal

pub returns : goal.returns
returns c = λ schema. c.in_ok-batch.ensures schema (Marks c.args.next.0) tt refl
