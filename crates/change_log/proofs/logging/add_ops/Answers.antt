use Rattle.change_log.proofs.LoggingLaws.{op_more}
use Rattle.change_log.proofs.logging.add_ops.Goals as goal

pub loop-op-preserved : goal.loop-op-preserved
loop-op-preserved c =
    op_more c.args.tables.now c.args.schema.now c.args.ops.now c.loop-op.op-index c.op-item.result c.loop-op-test.true c.op-item.is
    c.loop-op.out.items c.add_op.new.out.items _ c.loop-op.invariant c.in_ok-add_op.ensures
