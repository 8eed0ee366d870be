use Rattle.journal_entries.specs.Spelling.{value_bytes}
use Rattle.journal_entries.proofs.SizeLaws.{size_step}
use Rattle.journal_entries.proofs.size.values_size.Goals as goal

pub loop-value-preserved : goal.loop-value-preserved
loop-value-preserved c = size_step value_bytes c.args.values.now c.loop-value.value-index c.value-item.result c.loop-value.size c.value_size.result c.saturating_add-size.result c.value-item.is c.loop-value-test.true c.loop-value.invariant c.value_size.ensures c.saturating_add-size.ensures
