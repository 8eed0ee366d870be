use Rattle.std.proofs.Common.{None, Ok, ap, length, sym, ◌∙◌}
use Rattle.cache_tier.specs.CommitSteps.{ends}
use Rattle.cache_tier.specs.declared.reply.Last.TheVariants.{Done}
use Rattle.cache_tier.specs.Worlds.{only}
use Rattle.session_engine.proofs.CommitPerformed.{none_long}
use Rattle.session_engine.proofs.KeptLaws.{calm_over}
use Rattle.session_engine.proofs.LaterKept.{unwritten_over, wanting_over}
use Rattle.stored_tier.proofs.QuietLaws.{answered_quietly, calm_refused, its_session}
use Rattle.row_types.specs.declared.rule.Refused.TheVariants as refused
use Rattle.session_engine.proofs.resting.commit_session.Goals as goal

pub returns-then-ops-eq0-clause-performs : goal.returns-then-ops-eq0-clause-performs
returns-then-ops-eq0-clause-performs g c =
    let site = g.P.Disk.state c.args.site.now in
    unwritten_over g.P.Disk.state g.P.Disk.possible c.label_law.ensures.number c.args.tier.now _ c.args.journal.now c.args.site.now c.args.id (Ok c.rollback.result) c.requires
    (sym c.ops.ensures ∙ none_long c.ops.result.now c.if-ops-eq0.true)
    (λ s has w at is unshared. answered_quietly c.args.tier.now c.rollback.new.self site w None (ends s w.tier, only (Done 0)) (Ok c.rollback.result) at is is.waits
    c.rollback.ensures.rows c.rollback.ensures.hidden
    (λ none. c.session_law.ensures.ends w s is.stands (its_session c.args.tier.now w.tier c.args.id s is.stored has))
    (c.rollback.ensures.answers w.tier s is.stored has))

pub returns-then-ops-eq0-clause-cause : goal.returns-then-ops-eq0-clause-cause
returns-then-ops-eq0-clause-cause g c = calm_over c.args.journal.now (g.P.Disk.state c.args.site.now) c.rollback.result c.rollback.ensures.calm

pub returns-then-not-may_wait-clause-performs : goal.returns-then-not-may_wait-clause-performs
returns-then-not-may_wait-clause-performs g c = wanting_over g.P.Disk.state g.P.Disk.possible c.args.tier.now c.args.journal.now c.args.site.now c.args.id

pub returns-then-not-may_wait-clause-cause : goal.returns-then-not-may_wait-clause-cause
returns-then-not-may_wait-clause-cause g c = calm_over c.args.journal.now (g.P.Disk.state c.args.site.now) _ (calm_refused refused.Memory)

pub commit_recorded-requires-clause-some : goal.commit_recorded-requires-clause-some
commit_recorded-requires-clause-some g c = λ e. c.if-ops-eq0.false (ap length (c.ops.ensures ∙ e))

pub commit_recorded-requires-clause-deferred : goal.commit_recorded-requires-clause-deferred
commit_recorded-requires-clause-deferred g c = sym c.may_wait.ensures ∙ c.if-not-may_wait.false
