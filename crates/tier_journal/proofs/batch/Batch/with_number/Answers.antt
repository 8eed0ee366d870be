use Rattle.std.proofs.Common.{refl}
use Rattle.cache_tier.specs.Journals.{Numbers}
use Rattle.tier_journal.proofs.batch.Batch.with_number.Goals as goal

pub returns : goal.returns
returns c = λ schema. c.in_ok-batch.ensures schema (Numbers c.args.ticket.0) tt refl
