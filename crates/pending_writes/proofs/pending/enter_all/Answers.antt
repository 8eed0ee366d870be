use Rattle.std.proofs.Common.{◌∙◌, arith}
use Rattle.pending_writes.proofs.NoteLaws.{all_so_far, so_far}
use Rattle.pending_writes.proofs.pending.enter_all.Goals as goal

pub loop-write-preserved : goal.loop-write-preserved
loop-write-preserved c = record {
  told = λ k. c.enter.ensures.told k ∙ c.loop-write.invariant.told k;
  entered = λ i w lt at. so_far c.loop-write.tables c.enter.new.tables c.args.writes.now c.loop-write.write-index i c.write-item.result w c.write-item.is c.enter.ensures.stay c.in_ok-enter.ensures.entered c.loop-write.invariant.entered lt at;
}

pub returns-clause-entered : goal.returns-clause-entered
returns-clause-entered c = all_so_far c.loop-write.tables c.args.writes.now c.loop-write.write-index (let end = c.loop-write-test.false in omega arith) c.loop-write.invariant.entered
