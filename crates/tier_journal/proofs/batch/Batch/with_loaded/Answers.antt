use Rattle.std.proofs.Common.{ap, sym, List, ℕ}
use Rattle.journal_entries.specs.declared.entry.Entry.TheVariants.{Loaded}
use Rattle.cache_tier.specs.Journals.{SetsLoaded}
use Rattle.tier_journal.proofs.batch.Batch.with_loaded.Goals as goal

pub returns : goal.returns
returns c = λ schema. c.in_ok-batch.ensures schema (SetsLoaded c.args.name.now c.args.flag) tt (ap (λ (l : List ℕ). Loaded l c.args.flag) (sym c.in_ok-name.ensures))
