use Rattle.std.proofs.Common.{refl}
use Rattle.cache_tier.specs.Journals.{Prepares}
use Rattle.tier_journal.proofs.BatchLaws.{added}
use Rattle.tier_journal.proofs.batch.Batch.with_prepare.Goals as goal

pub returns : goal.returns
returns c = added c.args.schema.now c.args.self _ (Prepares c.args.sealed.now) c.requires.tables c.requires.order refl refl c.in_ok-push_transaction.ensures
