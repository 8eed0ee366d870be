use Rattle.cache_engine.proofs.LineLaws.{worked_end, worked_on}
use Rattle.cache_engine.proofs.CauseLaws.{stopped_caused, worked_caused}
use Rattle.cache_engine.proofs.request.work_and_answer.Goals as goal

pub returns-in-Some-clause-performs : goal.returns-in-Some-clause-performs
returns-in-Some-clause-performs g c =
    worked_end g.P.Disk.state g.P.Disk.possible c.args.engine.now.tier c.begin_line.new.tier c.args.engine.now.doubt c.begin_line.new.doubt
    c.args.engine.now.journal c.begin_line.new.journal c.args.site.now c.begin_line.new.site c.args.base.0
    c.args.line c.in-Ok.field-0.notes c.in-Ok.field-0.stop
    c.in-Some.reply c.with_notes.result c.in-Some.is c.with_notes.ensures c.in-Ok.ensures.performs

pub returns-in-None-clause-performs : goal.returns-in-None-clause-performs
returns-in-None-clause-performs g c =
    worked_on g.P.Disk.state g.P.Disk.possible c.args.engine.now.tier c.begin_line.new.tier c.answer_line.new.tier c.args.engine.now.doubt c.begin_line.new.doubt
    c.answer_line.new.doubt c.args.engine.now.journal c.begin_line.new.journal c.answer_line.new.journal c.args.site.now c.begin_line.new.site
    c.answer_line.new.site c.args.base.0 c.args.line c.in-Ok.field-0.notes
    c.in-Ok.field-0.stop c.answer_line.result c.with_notes-in-None.result c.in-None.is (c.in-Ok.ensures.settled c.in-None.is)
    c.with_notes-in-None.ensures c.in-Ok.ensures.performs c.answer_line.ensures.performs

pub returns-in-Some-clause-cause : goal.returns-in-Some-clause-cause
returns-in-Some-clause-cause g c =
    stopped_caused c.args.engine.now.journal (g.P.Disk.state c.args.site.now) (g.P.Disk.state c.begin_line.new.site) c.in-Ok.field-0 c.in-Some.reply c.with_notes.result c.in-Some.is c.with_notes.ensures c.in-Ok.ensures.cause

pub returns-in-None-clause-cause : goal.returns-in-None-clause-cause
returns-in-None-clause-cause g c =
    worked_caused c.args.engine.now.journal c.begin_line.new.journal (g.P.Disk.state c.args.site.now) (g.P.Disk.state c.begin_line.new.site) (g.P.Disk.state c.answer_line.new.site)
    c.in-Ok.field-0 c.answer_line.result c.with_notes-in-None.result c.begin_line.ensures.none c.in-None.is c.with_notes-in-None.ensures
    c.in-Ok.ensures.cause c.answer_line.ensures.cause
