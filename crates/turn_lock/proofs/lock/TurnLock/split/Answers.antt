use Rattle.std.proofs.Common.{rules, arith}
use Rattle.turn_lock.proofs.Steps.{allows_split}
use Rattle.turn_lock.proofs.lock.TurnLock.split.Goals as goal

pub split_seat-seat-requires : goal.split_seat-seat-requires
split_seat-seat-requires g c =
    let two = c.requires.parts in
    (c.requires.lock, search rules, allows_split g.V.Grows.list _ _ _ _ _ (omega arith))
