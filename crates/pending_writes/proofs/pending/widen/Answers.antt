use Rattle.std.proofs.Common.{◌∙◌, arith}
use Rattle.pending_writes.proofs.NoteLaws.{one_longer, stay_wider}
use Rattle.pending_writes.proofs.pending.widen.Goals as goal

pub loop-place-preserved : goal.loop-place-preserved
loop-place-preserved c = record {
  told = λ k. stay_wider _ _ _ c.new.ensures c.in_ok-push.ensures.items k ∙ c.loop-place.invariant.told k;
  long = (let a = c.loop-place.invariant.long in let b = one_longer _ _ _ c.in_ok-push.ensures.items in omega arith);
}
