use Rattle.table_state.proofs.HistoryLaws.{fault_here, one_op_more, says_none_all}
use Rattle.table_state.proofs.tables.Tables.apply_noted.Goals as goal

pub returns-in-Err-clause-refused : goal.returns-in-Err-clause-refused
returns-in-Err-clause-refused c = fault_here c.args.ops.now c.loop-op.op-index c.op-item.result c.args.self.now c.loop-op.self c.loop-op-test.true c.op-item.is c.loop-op.invariant.so_far c.in-Err.e c.in-Err.ensures.refused

pub returns-in-Err-clause-none : goal.returns-in-Err-clause-none
returns-in-Err-clause-none c =
    says_none_all c.args.ops.now c.args.self.now c.in-Err.e
    (fault_here c.args.ops.now c.loop-op.op-index c.op-item.result c.args.self.now c.loop-op.self c.loop-op-test.true c.op-item.is c.loop-op.invariant.so_far c.in-Err.e c.in-Err.ensures.refused)

pub loop-op-preserved : goal.loop-op-preserved
loop-op-preserved c = record {
  so_far = one_op_more c.args.ops.now c.loop-op.op-index c.op-item.result c.args.self.now c.loop-op.self c.apply_one.new.self c.loop-op-test.true c.op-item.is c.loop-op.invariant.so_far c.in-Ok.ensures.ok;
  back = c.apply_one.ensures.back c.args.self.now c.loop-op.invariant.back;
}
