use Rattle.std.proofs.Common.{arith}
use Rattle.group_store.specs.Stores.{ops_done}
use Rattle.group_store.proofs.StoreLaws.{one_less, one_more}
use Rattle.group_store.proofs.store.Store.apply_ops.Goals as goal

pub loop-op-preserved : goal.loop-op-preserved
loop-op-preserved c =
    let rest = c.loop-op.op-iterator.rest.items in
    let later = c.next.new.self.rest.items in
    let is = c.in-Some.ensures.steps.0 in
    let less = one_less rest later c.in-Some.op is c.args.self.now c.loop-op.self c.apply.new.self in
    let room = c.loop-op.invariant.room in
    let spare = c.loop-op.invariant.spare in
    let more = c.apply.ensures.spare in
    record {
      done = one_more rest later c.in-Some.op is (ops_done c.args.ops c.args.self.now) c.loop-op.self c.apply.new.self c.loop-op.invariant.done c.apply.ensures.done;
      room = omega (arith, less, room, more);
      spare = omega (arith, less, spare, more);
    }
