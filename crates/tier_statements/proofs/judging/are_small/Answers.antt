use Rattle.std.proofs.Common.{length, arith, ap, ◌≤◌}
use Rattle.tier_statements.proofs.JudgeLaws.{small_where}
use Rattle.tier_statements.proofs.judging.are_small.Goals as goal

pub returns : goal.returns
returns g c = λ yes.
    let end : length (g.S.Scan.state c.args.scan.now).schema ≤ c.loop-place.place = (let a = c.loop-place-test.false in let b = c.len-place-end.ensures in let e = ap length c.schema.ensures in omega arith) in
    small_where (g.S.Scan.state c.args.scan.now) c.loop-place.place c.requires end c.loop-place.invariant
