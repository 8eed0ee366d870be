use Rattle.std.proofs.Common.{◌<◌, ◌≤◌, ◌∙◌, arith, length}
use Rattle.session_engine.proofs.CommitLaws.{room_all, room_more, set_long, store_keeps}
use Rattle.session_engine.proofs.commit.reserve_all.Goals as goal

pub returns-in_err-reserve-clause-same : goal.returns-in_err-reserve-clause-same
returns-in_err-reserve-clause-same c =
    let long = c.loop-number.invariant.long in
    let lt : c.loop-number.number < length c.loop-number.stores.items = omega (arith, long) in
    store_keeps c.loop-number.stores.items c.loop-number.number c.index_mut.result.now c.reserve.new.self lt
    c.index_mut.ensures.value c.reserve.ensures.same
    ∙ c.loop-number.invariant.same

pub loop-number-preserved : goal.loop-number-preserved
loop-number-preserved c =
    let long = c.loop-number.invariant.long in
    let lt : c.loop-number.number < length c.loop-number.stores.items = omega (arith, long) in
    record {
      same =
          store_keeps c.loop-number.stores.items c.loop-number.number c.index_mut.result.now c.reserve.new.self lt
          c.index_mut.ensures.value c.reserve.ensures.same
          ∙ c.loop-number.invariant.same;
      long = set_long c.loop-number.stores.items c.loop-number.number c.reserve.new.self ∙ long;
      room =
          room_more c.args.more c.loop-number.number c.loop-number.stores.items c.reserve.new.self
          c.in_ok-reserve.ensures.ok c.loop-number.invariant.room;
    }

pub returns-clause-room : goal.returns-clause-room
returns-clause-room c =
    let long = c.loop-number.invariant.long in
    let end : length c.loop-number.stores.items ≤ c.loop-number.number = omega (arith, long) in
    room_all c.args.more c.loop-number.number c.loop-number.stores.items end c.loop-number.invariant.room
