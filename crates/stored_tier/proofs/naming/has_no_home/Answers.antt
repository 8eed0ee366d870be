use Rattle.std.proofs.Common.{sym, ◌∙◌}
use Rattle.stored_tier.proofs.NamingLaws.{home_fewer, home_more}
use Rattle.stored_tier.proofs.naming.has_no_home.Goals as goal

pub loop-number-preserved : goal.loop-number-preserved
loop-number-preserved c =
    home_more c.args.directory.now c.args.first c.loop-number.number c.home.result c.home.ensures
    (sym c.is_some.ensures ∙ c.if-is_some.false) c.loop-number.invariant

pub returns : goal.returns
returns c = λ is. home_fewer c.args.directory.now c.args.first c.loop-number.number c.args.end c.loop-number-test.false c.loop-number.invariant
