use Rattle.pending_writes.proofs.NoteLaws.{told_next}
use Rattle.pending_writes.proofs.writes.writes_of.Goals as goal

pub loop-op-preserved : goal.loop-op-preserved
loop-op-preserved c = λ k. told_next _ k _ _ _ c.loop-op.writes.items c.add_op.new.writes.items c.loop-op-test.true c.op-item.is (c.loop-op.invariant k) (c.in_ok-add_op.ensures k)
