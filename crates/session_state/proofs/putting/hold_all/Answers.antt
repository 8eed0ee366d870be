-- Each mark is one of those that are left.
use Rattle.std.proofs.Common.{arith}
use Rattle.session_state.proofs.HoldingLaws.{mark_within, marks_done, room_for_one, room_later}
use Rattle.session_state.proofs.putting.hold_all.Goals as goal

pub hold_one-requires-clause-within : goal.hold_one-requires-clause-within
hold_one-requires-clause-within c = let w = (mark_within _ _ _ c.in-Some.ensures.steps.0 _ c.loop-mark.invariant.within).0 in let l = c.loop-mark.auto.keys in omega arith

pub hold_one-requires-clause-room : goal.hold_one-requires-clause-room
hold_one-requires-clause-room c = room_for_one _ _ _ c.in-Some.ensures.steps.0 _ c.loop-mark.invariant.room

pub loop-mark-preserved : goal.loop-mark-preserved
loop-mark-preserved c = record {
  rest = marks_done _ _ _ c.in-Some.ensures.steps.0 _ _ _ c.hold_one.ensures c.loop-mark.invariant.rest;
  within = (mark_within _ _ _ c.in-Some.ensures.steps.0 _ c.loop-mark.invariant.within).1;
  room = room_later _ _ _ c.in-Some.ensures.steps.0 _ _ c.hold_one.ensures c.loop-mark.invariant.room;
}
