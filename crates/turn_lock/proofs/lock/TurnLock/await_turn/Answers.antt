use Rattle.std.proofs.Common.{rules, ap, ◌∙◌}
use Rattle.turn_lock.proofs.Steps.{allows_look}
use Rattle.turn_lock.proofs.lock.TurnLock.await_turn.Goals as goal

pub load-requires : goal.load-requires
load-requires g c =
    (search rules, search rules, allows_look g.V.Grows.list _ _ _ _ _ _ (ap (λ m. m.0.stage) c.loop.invariant.1 ∙ c.requires.waits))
