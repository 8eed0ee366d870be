-- A place more without keys.
use Rattle.std.proofs.Common.{sym, subst, arith}
use Rattle.session_state.specs.Holding.{AreKeysOf, KeysHaveRoom}
use Rattle.session_state.proofs.HoldingLaws.{keys_pad, keys_room_wider, one_more}
use Rattle.session_state.proofs.putting.widen_keys.Goals as goal

pub loop-place-preserved : goal.loop-place-preserved
loop-place-preserved c = record {
  keys = λ held are. keys_pad held _ _ _ c.new.ensures c.in_ok-push.ensures.items (c.loop-place.invariant.keys held are);
  room = λ n few room. keys_room_wider n _ _ _ c.new.ensures c.in_ok-push.ensures.items few (c.loop-place.invariant.room n few room);
  place = one_more _ _ _ _ c.in_ok-push.ensures.items c.loop-place.invariant.place;
  within = omega arith;
}

pub returns-in_err-push-clause-keys : goal.returns-in_err-push-clause-keys
returns-in_err-push-clause-keys c = λ held are. subst (AreKeysOf held) (sym c.in_err-push.ensures.items) (c.loop-place.invariant.keys held are)

pub returns-in_err-push-clause-room : goal.returns-in_err-push-clause-room
returns-in_err-push-clause-room c = λ n few room. subst (KeysHaveRoom n) (sym c.in_err-push.ensures.items) (c.loop-place.invariant.room n few room)
