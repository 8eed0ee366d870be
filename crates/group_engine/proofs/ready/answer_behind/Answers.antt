use Rattle.group_engine.proofs.ReadyLaws.{answered_cause, answers_not, answers_so}
use Rattle.stored_tier.proofs.OverLaws.{caused_stopped}
use Rattle.group_engine.proofs.ready.answer_behind.Goals as goal

pub returns-in-Ok-clause-answers : goal.returns-in-Ok-clause-answers
returns-in-Ok-clause-answers g c =
    answers_so g.P.Disk.state g.P.Disk.possible c.args.journal.now c.flush_ready.new.journal c.args.site.now c.flush_ready.new.disk c.args.ready.now c.args.reply c.in-Ok.ensures.flushes c.in-Ok.ensures.cause

pub returns-in-Err-clause-answers : goal.returns-in-Err-clause-answers
returns-in-Err-clause-answers g c =
    answers_not g.P.Disk.state g.P.Disk.possible c.args.journal.now c.flush_ready.new.journal c.args.site.now c.flush_ready.new.disk c.args.ready.now c.args.reply c.in-Err.fault c.requires.fits c.in-Err.ensures.flushes c.in-Err.ensures.cause

pub returns-in-Ok-clause-cause : goal.returns-in-Ok-clause-cause
returns-in-Ok-clause-cause g c = answered_cause _ _ _ c.args.reply c.in-Ok.ensures.cause c.requires.calm

pub returns-in-Err-clause-cause : goal.returns-in-Err-clause-cause
returns-in-Err-clause-cause g c = caused_stopped _ _ _ c.in-Err.fault c.in-Err.ensures.cause
