use Rattle.std.proofs.Common.{rules, ◌<◌, sym, subst, arith}
use Rattle.turn_lock.proofs.Steps.{allows_draw}
use Rattle.turn_lock.proofs.lock.TurnLock.draw.Goals as goal

pub compare_exchange-found-requires : goal.compare_exchange-found-requires
compare_exchange-found-requires g c =
    let some : 0 < c.loop.seat.me.0.parts = subst (λ m. 0 < m.0.parts) (sym c.loop.invariant.1) c.requires.idle.1 in
    (search rules, search rules, allows_draw g.V.Grows.list _ _ _ _ _ _ (omega arith) (search rules) (λ none. omega arith))
