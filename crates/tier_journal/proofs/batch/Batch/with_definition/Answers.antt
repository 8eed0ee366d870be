use Rattle.std.proofs.Common.{ap, sym, List, ℕ}
use Rattle.journal_entries.specs.declared.entry.Entry.TheVariants.{Defined}
use Rattle.cache_tier.specs.Journals.{Defines}
use Rattle.tier_journal.proofs.batch.Batch.with_definition.Goals as goal

pub returns : goal.returns
returns c = λ schema def. c.in_ok-batch.ensures schema (Defines def c.args.text.now) tt (ap (λ (l : List ℕ). Defined l) (sym c.in_ok-text.ensures))
