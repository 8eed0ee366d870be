use Rattle.std.proofs.Common.{IfOk, subst, sym}
use Rattle.cache_tier.specs.SelectSteps.{plan_of}
use Rattle.session_engine.specs.Using.{AreQueryUses}
use Rattle.session_engine.proofs.selecting.uses_of.Goals as goal

pub returns-in-Rows : goal.returns-in-Rows
returns-in-Rows c =
    subst (λ q. IfOk c.query_uses.result (AreQueryUses c.args.tier.now c.args.id (plan_of q))) (sym c.in-Rows.is) c.query_uses.ensures

pub returns-in-Totals : goal.returns-in-Totals
returns-in-Totals c =
    subst (λ q. IfOk c.query_uses-in-Totals.result (AreQueryUses c.args.tier.now c.args.id (plan_of q))) (sym c.in-Totals.is) c.query_uses-in-Totals.ensures
