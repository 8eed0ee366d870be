use Rattle.std.proofs.Common.{rules}
use Rattle.turn_lock.proofs.Steps.{allows_join}
use Rattle.turn_lock.proofs.lock.TurnLock.join.Goals as goal

pub join_seat-requires : goal.join_seat-requires
join_seat-requires g c =
    (c.requires.pass, search rules, c.args.other.bare, search rules, allows_join g.V.Grows.list _ _ _ _ _ _ c.args.other.idle)
