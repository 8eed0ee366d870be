use Rattle.std.proofs.Common.{arith, refl}
use Rattle.changed_sets.proofs.RoomSteps.{all_room, long_after, pairs_after, room_more}
use Rattle.changed_sets.proofs.StorePairs.{room_self}
use Rattle.changed_sets.proofs.room.make_room.Goals as goal

pub loop-place-init : goal.loop-place-init
loop-place-init c = record { same = room_self c.args.stores.now.items; long = refl; room = λ k lt. absurd (omega (arith, lt)) }

pub loop-place-preserved : goal.loop-place-preserved
loop-place-preserved c =
    let inv = c.loop-place.invariant in
    let one = c.room_at.ensures.same in
    record {
      same = pairs_after c.loop-place.place c.args.stores.now.items c.loop-place.stores.items c.room_at.new.stores.items inv.same one;
      long = long_after c.loop-place.place c.args.stores.now.items c.loop-place.stores.items c.room_at.new.stores.items inv.long one;
      room = room_more c.loop-place.place c.args.patches.now c.loop-place.stores.items c.room_at.new.stores.items inv.room one c.in_ok-room_at.ensures.room;
    }

pub returns-in_err-room_at-clause-same : goal.returns-in_err-room_at-clause-same
returns-in_err-room_at-clause-same c = pairs_after c.loop-place.place c.args.stores.now.items c.loop-place.stores.items c.room_at.new.stores.items c.loop-place.invariant.same c.room_at.ensures.same

pub returns-clause-room : goal.returns-clause-room
returns-clause-room c =
    let past = c.loop-place-test.false in
    let long = c.len-place-end.ensures in
    let same = c.loop-place.invariant.long in
    all_room c.args.patches.now c.loop-place.stores.items c.loop-place.place c.loop-place.invariant.room (omega (arith, past, long, same))
