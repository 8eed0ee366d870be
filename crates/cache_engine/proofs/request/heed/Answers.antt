use Rattle.std.proofs.Common.{ap, sym, ◌∙◌}
use Rattle.tier_statements.specs.Replies.{reply_to}
use Rattle.cache_engine.proofs.CauseLaws.{refusal_caused}
use Rattle.cache_engine.proofs.LineLaws.{early, heeded, undone}
use Rattle.cache_engine.proofs.request.heed.Goals as goal

pub returns-in-Ok-clause-performs : goal.returns-in-Ok-clause-performs
returns-in-Ok-clause-performs g c =
    heeded g.P.Disk.state g.P.Disk.possible c.args.engine.now.tier c.work_and_answer.new.engine.tier c.args.engine.now.doubt
    c.work_and_answer.new.engine.doubt c.args.engine.now.journal c.work_and_answer.new.engine.journal c.args.site.now
    c.work_and_answer.new.site c.args.base.0 c.args.line c.work_and_answer.result
    (sym c.is_undone.ensures ∙ c.if-is_undone.false) c.in-Ok.ensures c.work_and_answer.ensures.performs

pub returns-in-Err-clause-cause : goal.returns-in-Err-clause-cause
returns-in-Err-clause-cause g c = refusal_caused c.args.engine.now.journal (g.P.Disk.state c.args.site.now) c.in-Err.refused c.refuse-in-Err.result c.refuse-in-Err.ensures

pub returns-in-Err-clause-performs : goal.returns-in-Err-clause-performs
returns-in-Err-clause-performs g c =
    early g.P.Disk.state g.P.Disk.possible c.args.engine.now.tier c.args.engine.now.doubt c.args.engine.now.journal c.args.site.now c.args.base.0 c.args.line c.in-Err.refused c.refuse-in-Err.result
    (sym c.is_undone.ensures ∙ c.if-is_undone.false) c.in-Err.ensures c.refuse-in-Err.ensures

pub returns-then-is_undone-clause-performs : goal.returns-then-is_undone-clause-performs
returns-then-is_undone-clause-performs g c =
    undone g.P.Disk.state g.P.Disk.possible c.args.engine.now.tier c.args.engine.now.doubt c.args.engine.now.journal c.args.site.now c.args.base.0 c.args.line c.refuse.result (sym c.is_undone.ensures ∙ c.if-is_undone.true)
    (c.refuse.ensures ∙ ap reply_to c.wrong_at.ensures)

pub returns-then-is_undone-clause-cause : goal.returns-then-is_undone-clause-cause
returns-then-is_undone-clause-cause g c = refusal_caused c.args.engine.now.journal (g.P.Disk.state c.args.site.now) c.wrong_at.result c.refuse.result c.refuse.ensures
