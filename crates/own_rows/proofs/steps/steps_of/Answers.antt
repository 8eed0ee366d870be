-- A step more.
use Rattle.own_rows.proofs.StepLaws.{steps_next}
use Rattle.own_rows.proofs.steps.steps_of.Goals as goal

pub loop-op-preserved : goal.loop-op-preserved
loop-op-preserved c = steps_next _ _ _ _ _ _ _ c.loop-op-test.true c.op-item.is c.in_ok-push.ensures.items c.loop-op.invariant c.in_ok-step_of.ensures.table c.in_ok-step_of.ensures.step
