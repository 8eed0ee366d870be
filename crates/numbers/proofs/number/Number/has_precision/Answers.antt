use Rattle.std.proofs.Common.{◌≡◌, ◌≤◌, ◌^◌, arith, true}
use Rattle.std.specs.Prelude.{nat_lt, unsigned_abs}
use Rattle.std.proofs.Math.Nat.{pow-le-pow_right}
use Rattle.std.proofs.lemmas.Bool.Decides.{nat_tests}
use Rattle.std.proofs.lemmas.Int.{ints}
use Rattle.numbers.proofs.number.Number.has_precision.Goals as goal

pub returns-then-precision-gt-GREATEST_SCALE : goal.returns-then-precision-gt-GREATEST_SCALE
returns-then-precision-gt-GREATEST_SCALE c =
    let p = c.args.precision in
    let units = c.self.inside.units in
    let enough : 10 ^ 19 ≤ 10 ^ p = pow-le-pow_right {n = 10} (omega arith) {i = 19} {j = p} (omega (arith, c.if-precision-gt-GREATEST_SCALE.true)) in
    let small : unsigned_abs units ≤ 2 ^ 63 = omega (arith, ints, c.self.invariant.first, c.self.invariant.last) in
    let more : nat_lt 18 p ≡ true = grind (arith, nat_tests, c.if-precision-gt-GREATEST_SCALE.true) in
    let has : nat_lt (unsigned_abs units) (10 ^ p) ≡ true = grind (arith, nat_tests, enough, small) in
    rw (← c.self.view_is, more, has)
