use Rattle.std.proofs.Common.{Ok, refl}
use Rattle.propagators.proofs.CertainLaws.{bank_certain}
use Rattle.session_engine.proofs.PassedQueryLaws.{answered_cause, copied_as, failed_cause, passed_answered, passed_failed}
use Rattle.session_engine.proofs.passed_query.select_passed.Goals as goal

pub returns-in-Err-clause-passes : goal.returns-in-Err-clause-passes
returns-in-Err-clause-passes g c = λ t.
    passed_failed t c.args.query.now c.tables_of.result.now _ _ c.in-Err.error c.bank_fault.result
    (record {
      told = c.in-Err.ensures.told;
      later = c.in-Err.ensures.cause.later;
      moment = c.in-Err.ensures.crash.later;
      shares = c.in-Err.ensures.cause.shared;
    })
    c.bank_fault.ensures

pub returns-in-Ok-clause-passes : goal.returns-in-Ok-clause-passes
returns-in-Ok-clause-passes g c = λ t.
    passed_answered t c.args.query.now _ _ c.in-Ok.snapshot c.answer_over.result
    (copied_as c.args.query.now c.tables_of.result.now _ _ _ c.tables_of.ensures
    (record {
      told = c.in-Ok.ensures.told;
      later = c.in-Ok.ensures.cause.later;
      moment = c.in-Ok.ensures.crash.later;
      shares = c.in-Ok.ensures.cause.shared;
    }))
    c.answer_over.ensures.answers

pub returns-in-Err-clause-cause : goal.returns-in-Err-clause-cause
returns-in-Err-clause-cause g c =
    failed_cause c.tables_of.result.now _ _ c.in-Err.error _ c.bank_fault.result refl
    (record {
      told = c.in-Err.ensures.told;
      later = c.in-Err.ensures.cause.later;
      moment = c.in-Err.ensures.crash.later;
      shares = c.in-Err.ensures.cause.shared;
    })
    c.bank_fault.ensures c.in-Err.ensures.cause.failed

pub returns-in-Ok-clause-cause : goal.returns-in-Ok-clause-cause
returns-in-Ok-clause-cause g c =
    answered_cause c.args.query.now c.tables_of.result.now c.in-Ok.snapshot.tables _ _ (Ok c.in-Ok.snapshot) c.answer_over.result
    (record {
      told = c.in-Ok.ensures.told;
      later = c.in-Ok.ensures.cause.later;
      moment = c.in-Ok.ensures.crash.later;
      shares = c.in-Ok.ensures.cause.shared;
    })
    c.answer_over.ensures.answers

pub returns-in-Err-clause-certain : goal.returns-in-Err-clause-certain
returns-in-Err-clause-certain g c = bank_certain g.P.Disk.state g.P.Disk.possible g.met.P.Disk.certain c.args.site.now c.snapshot.new.self _ c.in-Err.ensures.told c.in-Err.ensures.crash

pub returns-in-Ok-clause-certain : goal.returns-in-Ok-clause-certain
returns-in-Ok-clause-certain g c = bank_certain g.P.Disk.state g.P.Disk.possible g.met.P.Disk.certain c.args.site.now c.snapshot.new.self _ c.in-Ok.ensures.told c.in-Ok.ensures.crash
