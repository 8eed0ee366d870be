-- A bare place more.
use Rattle.std.proofs.Common.{sym, subst, arith}
use Rattle.own_rows.specs.Laying.{HaveRoom}
use Rattle.own_rows.specs.OwnTables.{AreRowsOf}
use Rattle.own_rows.proofs.RowsLaws.{one_more, room_wider, rows_wider}
use Rattle.own_rows.proofs.widening.widen_rows.Goals as goal

pub loop-def-preserved : goal.loop-def-preserved
loop-def-preserved c = record {
  rows = λ known ops are. rows_wider known ops _ _ _ c.in_ok-rows.ensures.live c.in_ok-rows.ensures.fresh c.in_ok-rows.ensures.gone c.in_ok-push.ensures.items (c.loop-def.invariant.rows known ops are);
  room = λ n few room. room_wider n _ _ _ c.in_ok-rows.ensures.live c.in_ok-rows.ensures.fresh c.in_ok-rows.ensures.gone c.in_ok-push.ensures.items few (c.loop-def.invariant.room n few room);
  place = (let e = one_more _ _ _ _ c.in_ok-push.ensures.items c.loop-def.invariant.place in omega arith);
}

pub returns-in_err-push-clause-rows : goal.returns-in_err-push-clause-rows
returns-in_err-push-clause-rows c = λ known ops are. subst (AreRowsOf known ops) (sym c.in_err-push.ensures.items) (c.loop-def.invariant.rows known ops are)

pub returns-in_err-push-clause-room : goal.returns-in_err-push-clause-room
returns-in_err-push-clause-room c = λ n few room. subst (HaveRoom n) (sym c.in_err-push.ensures.items) (c.loop-def.invariant.room n few room)
