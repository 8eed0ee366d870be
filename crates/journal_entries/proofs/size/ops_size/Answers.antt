use Rattle.journal_entries.specs.Spelling.{op_bytes}
use Rattle.journal_entries.proofs.SizeLaws.{size_step}
use Rattle.journal_entries.proofs.size.ops_size.Goals as goal

pub loop-op-preserved : goal.loop-op-preserved
loop-op-preserved c = size_step op_bytes c.args.ops.now c.loop-op.op-index c.op-item.result c.loop-op.size c.op_size.result c.saturating_add-size.result c.op-item.is c.loop-op-test.true c.loop-op.invariant c.op_size.ensures c.saturating_add-size.ensures
