use Rattle.std.proofs.Common.{ap, sym, List, ℕ}
use Rattle.journal_entries.specs.declared.entry.Entry.TheVariants.{Dropped}
use Rattle.cache_tier.specs.Journals.{Drops}
use Rattle.tier_journal.proofs.batch.Batch.with_drop.Goals as goal

pub returns : goal.returns
returns c = λ schema. c.in_ok-batch.ensures schema (Drops c.args.name.now) tt (ap (λ (l : List ℕ). Dropped l) (sym c.in_ok-name.ensures))
