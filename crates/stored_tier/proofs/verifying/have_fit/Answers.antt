use Rattle.std.proofs.Common.{arith}
use Rattle.instances.specs.Views.{kept_at}
use Rattle.stored_tier.proofs.VerifyLaws.{fit_all}
use Rattle.stored_tier.proofs.verifying.have_fit.Goals as goal

pub returns-clause-fit : goal.returns-clause-fit
returns-clause-fit c = λ yes.
    fit_all c.args.columns.now (kept_at c.args.store.now.tables c.args.place) c.loop-at.at
    (let end = c.loop-at-test.false in omega (arith, c.len-at-end.ensures.value)) c.loop-at.invariant
