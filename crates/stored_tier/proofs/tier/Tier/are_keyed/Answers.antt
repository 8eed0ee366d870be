use Rattle.stored_tier.proofs.VerifyLaws.{keyed_rows}
use Rattle.std.proofs.Common.{arith}
use Rattle.stored_tier.proofs.tier.Tier.are_keyed.Goals as goal

pub returns : goal.returns
returns c = λ yes.
    keyed_rows c.args.self.now c.loop-place.place (let end = c.loop-place-test.false in omega (arith, c.len-place-end.ensures))
    c.loop-place.invariant
