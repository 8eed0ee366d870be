use Rattle.std.proofs.Common.{arith}
use Rattle.turn_lock.specs.Passes.{pass_parts}
use Rattle.turn_lock.proofs.Counts.{total_each}
use Rattle.turn_lock.proofs.tests.open_and_close.Goals as goal

pub close-requires-clause-all : goal.close-requires-clause-all
close-requires-clause-all c =
    let made = c.in-Ok.ensures in
    let each = total_each pass_parts c.in-Ok.passes.items made.parts in
    let ok = c.in-Ok.passes.ok in
    let lock = made.seats.0 in
    let len = made.seats.1 in
    omega arith
