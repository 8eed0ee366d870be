use Rattle.std.proofs.Common.{◌<◌, ◌≤◌, ◌∙◌, length, rules, subst, sym}
use Rattle.group_store.specs.Stores.{op_done}
use Rattle.session_engine.specs.Committing.{HaveRoomFor, bare_all}
use Rattle.session_engine.proofs.CommitLaws.{end_passed, home_found, room_less, room_same, step_done, store_does}
use Rattle.session_engine.proofs.commit.store_ops.Goals as goal

pub loop-op-preserved-then-store-len : goal.loop-op-preserved-then-store-len
loop-op-preserved-then-store-len c =
    let rest = c.loop-op.op-iterator.rest.items in
    let later = c.next.new.self.rest.items in
    let is = c.in-Some.ensures.steps.0 in
    let lt : c.in-Some-home.field-0.store < length c.loop-op.stores.items = Prim.search rules in
    record {
      done = step_done c.args.directory.now rest later c.in-Some.op (bare_all c.loop-op.stores.items) _ _ is
          (home_found c.args.directory.now c.in-Some.op c.table.result c.in-Some-home.field-0 (op_done c.in-Some.op)
          (bare_all c.loop-op.stores.items) c.table.ensures c.in-Some-home.ensures
          ∙ sym (store_does c.in-Some.op c.loop-op.stores.items c.in-Some-home.field-0.store c.index_mut.result.now
          c.apply.new.self lt c.index_mut.ensures.value c.apply.ensures.done))
          c.loop-op.invariant.done;
      room = room_less (length later) c.loop-op.stores.items c.in-Some-home.field-0.store c.index_mut.result.now
          c.apply.new.self lt c.index_mut.ensures.value c.apply.ensures.spare
          (subst (λ ops. HaveRoomFor (length ops) c.loop-op.stores.items) is c.loop-op.invariant.room);
    }

pub loop-op-preserved : goal.loop-op-preserved
loop-op-preserved c =
    let rest = c.loop-op.op-iterator.rest.items in
    let later = c.next.new.self.rest.items in
    let is = c.in-Some.ensures.steps.0 in
    let end : length c.loop-op.stores.items ≤ c.in-Some-home.field-0.store = Prim.search rules in
    record {
      done = step_done c.args.directory.now rest later c.in-Some.op (bare_all c.loop-op.stores.items) _ _ is
          (home_found c.args.directory.now c.in-Some.op c.table.result c.in-Some-home.field-0 (op_done c.in-Some.op)
          (bare_all c.loop-op.stores.items) c.table.ensures c.in-Some-home.ensures
          ∙ end_passed (op_done c.in-Some.op) c.loop-op.stores.items c.in-Some-home.field-0.store end)
          c.loop-op.invariant.done;
      room = room_same (length later) c.loop-op.stores.items
          (subst (λ ops. HaveRoomFor (length ops) c.loop-op.stores.items) is c.loop-op.invariant.room);
    }
