use Rattle.std.proofs.Common.{arith}
use Rattle.numbers.proofs.Digits.{place_more, place_here, place_past}
use Rattle.numbers.proofs.reading.point_place.Goals as goal

pub loop-place-preserved : goal.loop-place-preserved
loop-place-preserved c =
    let digits = c.args.digits.now in
    record {
      value = omega (arith, c.loop-place.invariant.value, place_more digits c.loop-place.place c.loop-place-test.true c.if-digits-place-ne46.true);
      bound = omega (arith, c.loop-place-test.true);
    }

pub returns-else-digits-place-ne46-clause-value : goal.returns-else-digits-place-ne46-clause-value
returns-else-digits-place-ne46-clause-value c =
    omega (arith, c.loop-place.invariant.value, place_here c.args.digits.now c.loop-place.place c.loop-place-test.true c.if-digits-place-ne46.false)

pub returns-after-loop-place-clause-value : goal.returns-after-loop-place-clause-value
returns-after-loop-place-clause-value c =
    omega (arith, c.loop-place.invariant.value, place_past c.args.digits.now c.loop-place.place c.loop-place-test.false)
