use Rattle.journal_entries.specs.Spelling.{entry_bytes}
use Rattle.journal_entries.proofs.SizeLaws.{size_step}
use Rattle.journal_entries.proofs.size.entries_size.Goals as goal

pub loop-entry-preserved : goal.loop-entry-preserved
loop-entry-preserved c = size_step entry_bytes c.args.entries.now c.loop-entry.entry-index c.entry-item.result c.loop-entry.size c.entry_size.result c.saturating_add-size.result c.entry-item.is c.loop-entry-test.true c.loop-entry.invariant c.entry_size.ensures c.saturating_add-size.ensures
