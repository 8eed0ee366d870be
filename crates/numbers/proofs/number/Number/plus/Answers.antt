use Rattle.std.proofs.Common.{◌≡◌, arith, to_z, of_z, ◌+ℤ◌}
use Rattle.std.specs.Int.{w128}
use Rattle.std.proofs.lemmas.Int.{ints}
use Rattle.numbers.proofs.number.Number.plus.Goals as goal

pub returns : goal.returns
returns c =
    let a = c.units_at.result in
    let b = c.units_at-2.result in
    let units : to_z w128 (of_z w128 (to_z w128 (of_z w128 a) +ℤ to_z w128 (of_z w128 b))) ≡ a +ℤ b = omega (arith, ints, c.units_at.ensures.bound, c.units_at-2.ensures.bound) in
    let is = rw (units, c.units_at.ensures.value, c.units_at-2.ensures.value, c.max-scale.ensures, c.scale.ensures.value, c.scale-2.ensures.value) at c.checked.ensures in
    is
