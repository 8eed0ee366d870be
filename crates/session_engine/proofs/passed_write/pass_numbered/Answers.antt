use Rattle.std.proofs.Common.{Ok}
use Rattle.cache_tier.specs.Journals.{Numbers}
use Rattle.tier_journal.proofs.DraftLaws.{placed_so}
use Rattle.propagators.proofs.CertainLaws.{bank_certain}
use Rattle.session_engine.proofs.DoubtLaws.{ready_none}
use Rattle.session_engine.proofs.PassedDone.{passed_ends}
use Rattle.session_engine.proofs.PassedKept.{passed_at, passed_cause, passed_doubt, passed_free, passed_over, passed_ready, unflushed_over}
use Rattle.stored_tier.proofs.OverLaws.{caused_stopped, caused_then}
use Rattle.session_engine.proofs.passed_write.pass_numbered.Goals as goal

pub flush_draft-requires : goal.flush_draft-requires
flush_draft-requires g c = placed_so c.args.tier.now.schema c.args.journal.now c.args.draft.now (Numbers c.args.tier.now.next) c.requires.draft

pub returns-in-Err-clause-passes : goal.returns-in-Err-clause-passes
returns-in-Err-clause-passes g c =
    passed_free g.P.Disk.state g.P.Disk.possible c.args.tier.now c.args.tier.now c.args.doubt.now c.args.journal.now c.flush_draft.new.journal c.args.site.now c.flush_draft.new.disk c.args.id c.args.change.now (Ok c.in-Err.fault) c.requires.free
    (unflushed_over g.P.Disk.state g.P.Disk.possible c.args.tier.now c.args.id c.args.change.now c.args.journal.now c.args.draft.now c.requires.draft c.requires.left c.flush_draft.new.journal c.args.site.now c.flush_draft.new.disk c.requires.fits
    c.in-Err.fault c.in-Err.ensures.flushes c.in-Err.ensures.cause)

pub returns-in-Err-clause-cause : goal.returns-in-Err-clause-cause
returns-in-Err-clause-cause g c = caused_stopped c.args.journal.now _ _ c.in-Err.fault c.in-Err.ensures.cause

pub returns-in-Err-clause-ready : goal.returns-in-Err-clause-ready
returns-in-Err-clause-ready g c = ready_none c.args.tier.now c.args.doubt.now c.requires.free

pub returns-in-Ok-clause-passes : goal.returns-in-Ok-clause-passes
returns-in-Ok-clause-passes g c =
    passed_over g.P.Disk.state g.P.Disk.possible c.args.tier.now c.args.id c.args.change.now c.args.journal.now c.args.draft.now c.requires.draft c.requires.left c.flush_draft.new.journal c.args.site.now c.flush_draft.new.disk c.requires.fits
    c.draw_number-ticket.new.tier c.conclude_passed.new.doubt c.passed-end.new.self c.conclude_passed.result c.in-Ok.ensures.flushes c.in-Ok.ensures.cause
    (bank_certain g.P.Disk.state g.P.Disk.possible g.met.P.Disk.certain c.flush_draft.new.disk c.passed-end.new.self _ c.passed-end.ensures.told c.passed-end.ensures.crash)
    (passed_ends c.args.tier.now c.draw_number-ticket.new.tier c.args.id c.draw_number-ticket.ensures.drawn c.requires.left c.requires.sound c.args.change.now _ _ c.passed-end.result c.conclude_passed.new.doubt c.conclude_passed.result
    (passed_at c.args.change.now c.draw_number-ticket.result c.args.tier.now.next _ _ c.passed-end.result c.draw_number-ticket.ensures.is
    (record {
      told = c.passed-end.ensures.told;
      later = c.passed-end.ensures.cause.later;
      moment = c.passed-end.ensures.crash.later;
      shares = c.passed-end.ensures.cause.shared;
    }))
    (passed_doubt c.args.id c.draw_number-ticket.result c.args.tier.now.next c.passed-end.result c.conclude_passed.new.doubt c.draw_number-ticket.ensures.is c.conclude_passed.ensures.doubt)
    c.conclude_passed.ensures.reply)

pub returns-in-Ok-clause-cause : goal.returns-in-Ok-clause-cause
returns-in-Ok-clause-cause g c =
    caused_then c.args.journal.now _ _ _ c.conclude_passed.result c.in-Ok.ensures.cause c.passed-end.ensures.cause.disk
    (passed_cause c.draw_number-ticket.result c.args.change.now _ _ c.passed-end.result c.conclude_passed.result
    (record {
      told = c.passed-end.ensures.told;
      later = c.passed-end.ensures.cause.later;
      moment = c.passed-end.ensures.crash.later;
      shares = c.passed-end.ensures.cause.shared;
    })
    c.passed-end.ensures.cause c.conclude_passed.ensures.reply)

pub returns-in-Ok-clause-ready : goal.returns-in-Ok-clause-ready
returns-in-Ok-clause-ready g c =
    passed_ready c.draw_number-ticket.new.tier c.args.id c.draw_number-ticket.result c.passed-end.result c.conclude_passed.new.doubt c.conclude_passed.ensures.doubt
