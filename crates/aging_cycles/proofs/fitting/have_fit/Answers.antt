use Rattle.std.proofs.Common.{arith}
use Rattle.stored_tier.proofs.VerifyLaws.{fit_all}
use Rattle.aging_cycles.proofs.fitting.have_fit.Goals as goal

pub returns : goal.returns
returns c = λ yes.
    fit_all c.args.columns.now c.args.rows.now c.loop-place.place
    (let end = c.loop-place-test.false in omega (arith, end, c.len-place-end.ensures.value)) c.loop-place.invariant
