use Rattle.std.proofs.Common.{◌≡◌, ◌≤◌, ◌^◌, arith, to_z, of_z, ◌*ℤ◌}
use Rattle.std.specs.Int.{w128}
use Rattle.std.specs.Prelude.{unsigned_abs}
use Rattle.std.proofs.lemmas.Int.{ints, fits_signed_mul, to_z-of_z}
use Rattle.numbers.proofs.number.Number.times.Goals as goal

pub returns : goal.returns
returns c =
    let a = c.args.self.units in
    let b = c.args.other.units in
    let left : c.from.result ≡ a = omega (arith, ints, c.from.ensures, c.units.ensures.value, c.units.ensures.range.first, c.units.ensures.range.last) in
    let right : c.from-2.result ≡ b = omega (arith, ints, c.from-2.ensures, c.units-2.ensures.value, c.units-2.ensures.range.first, c.units-2.ensures.range.last) in
    let small : unsigned_abs a ≤ 2 ^ 63 = omega (arith, ints, c.units.ensures.range.first, c.units.ensures.range.last) in
    let little : unsigned_abs b ≤ 2 ^ 63 = omega (arith, ints, c.units-2.ensures.range.first, c.units-2.ensures.range.last) in
    let one : to_z w128 (of_z w128 a) ≡ a = omega (arith, ints, small) in
    let other : to_z w128 (of_z w128 b) ≡ b = omega (arith, ints, little) in
    let product : to_z w128 (of_z w128 (a *ℤ b)) ≡ a *ℤ b = to_z-of_z w128 (a *ℤ b) (fits_signed_mul w128 a b (2 ^ 63) (2 ^ 63) small little (omega arith)) in
    let is = rw (left, right, one, other, product, c.scale.ensures.value, c.scale-2.ensures.value) at c.checked.ensures in
    is
