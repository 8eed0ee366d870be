use Rattle.std.proofs.Common.{ap, sym, ◌∙◌}
use Rattle.table_state.specs.Refusals.{broken_by_all}
use Rattle.stored_tier.proofs.VerifyLaws.{all_seen, one_more_applies}
use Rattle.aging_cycles.proofs.confirming.do_apply.Goals as goal

pub loop-session-preserved : goal.loop-session-preserved
loop-session-preserved g c =
    one_more_applies (g.S.Scan.state c.args.scan.now) c.args.sessions.now c.loop-session.session-index _
    c.loop-session-test.true c.session-item.is
    (ap (λ ops. broken_by_all ops (g.S.Scan.state c.args.scan.now)) (sym c.as_slice.ensures.value) ∙ c.in-Ok.ensures)
    c.loop-session.invariant

pub returns-clause-apply : goal.returns-clause-apply
returns-clause-apply g c = λ yes.
    all_seen (g.S.Scan.state c.args.scan.now) c.args.sessions.now c.loop-session.session-index c.loop-session-test.false
    c.loop-session.invariant
