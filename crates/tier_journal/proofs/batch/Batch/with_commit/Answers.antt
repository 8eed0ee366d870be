use Rattle.std.proofs.Common.{refl}
use Rattle.cache_tier.specs.Journals.{Commits}
use Rattle.tier_journal.proofs.BatchLaws.{added}
use Rattle.tier_journal.proofs.batch.Batch.with_commit.Goals as goal

pub returns : goal.returns
returns c = added c.args.schema.now c.args.self _ (Commits c.args.sealed.now) c.requires.tables c.requires.order refl refl c.in_ok-push_transaction.ensures
