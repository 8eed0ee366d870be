use Rattle.std.proofs.Common.{rules, arith}
use Rattle.turn_lock.proofs.Steps.{allows_split}
use Rattle.turn_lock.proofs.lock.TurnLock.split_seen.Goals as goal

pub split_seat-seat-requires : goal.split_seat-seat-requires
split_seat-seat-requires g c =
    let some = c.args.pass.now.some in
    (c.requires, search rules, allows_split g.V.Grows.list _ _ _ _ _ (omega arith))
