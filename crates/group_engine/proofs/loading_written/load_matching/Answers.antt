use Rattle.std.proofs.Common.{Err, Ok, subst, sym, ◌∙◌}
use Rattle.row_types.specs.declared.rule.Refused.TheVariants as refused
use Rattle.stored_tier.specs.Performing.{reply_of}
use Rattle.propagators.proofs.CertainLaws.{bank_certain}
use Rattle.group_engine.specs.Taking.{AsksTree}
use Rattle.group_engine.proofs.ReadyLaws.{bank_cause, calm_cause, fault_so, kept_here, taken_calm}
use Rattle.group_engine.proofs.TakenLaws.{reads_failed, reads_wanting}
use Rattle.group_engine.proofs.WrittenLaws.{read_all, read_full, read_refused}
use Rattle.group_engine.proofs.TakenParts.{matching_sound}
use Rattle.stored_tier.proofs.QuietLaws.{calm_refused}
use Rattle.group_engine.proofs.loading_written.load_matching.Goals as goal

pub returns-in-Err-clause-reads : goal.returns-in-Err-clause-reads
returns-in-Err-clause-reads g c = λ x of writes. reads_wanting g.P.Disk.state g.P.Disk.possible c.args.tier.now c.args.journal.now c.args.journal.now c.args.site.now c.args.place x c.args.refreshes (kept_here _)

pub returns-in-Err-snapshot-clause-reads : goal.returns-in-Err-snapshot-clause-reads
returns-in-Err-snapshot-clause-reads g c = λ x of writes.
    reads_failed g.P.Disk.state g.P.Disk.possible c.args.tier.now c.args.journal.now c.args.site.now c.snapshot.new.self c.args.place x c.args.refreshes c.as_slice.result.now c.in-Err-snapshot.error c.bank_fault.result c.bank_fault.ensures
    c.in-Err-snapshot.ensures.told c.in-Err-snapshot.ensures.cause.later c.in-Err-snapshot.ensures.crash.later c.in-Err-snapshot.ensures.cause.shared
    (bank_certain g.P.Disk.state g.P.Disk.possible g.met.P.Disk.certain c.args.site.now c.snapshot.new.self _ c.in-Err-snapshot.ensures.told c.in-Err-snapshot.ensures.crash)

pub returns-then-is_full-clause-reads : goal.returns-then-is_full-clause-reads
returns-then-is_full-clause-reads g c = λ x of writes.
    read_full g.P.Disk.state g.P.Disk.possible c.args.tier.now c.args.journal.now c.args.site.now c.snapshot.new.self c.args.place c.args.which.now c.args.refreshes c.as_slice.result.now c.in-Ok-snapshot.snapshot c.requires.sound
    (subst (AsksTree c.args.tier.now c.args.place) (sym c.as_slice.ensures.value) c.in-Ok.ensures) c.requires.may
    c.in-Ok-snapshot.ensures.told c.in-Ok-snapshot.ensures.cause.later c.in-Ok-snapshot.ensures.crash.later c.in-Ok-snapshot.ensures.cause.shared
    (bank_certain g.P.Disk.state g.P.Disk.possible g.met.P.Disk.certain c.args.site.now c.snapshot.new.self _ c.in-Ok-snapshot.ensures.told c.in-Ok-snapshot.ensures.crash)
    x of writes c.args.ready.now c.judge_full.result c.requires.ready (sym c.is_full.ensures ∙ c.if-is_full.true) c.judge_full.ensures.judges

pub returns-in-Err-take_matching-clause-reads : goal.returns-in-Err-take_matching-clause-reads
returns-in-Err-take_matching-clause-reads g c = λ x of writes.
    read_refused g.P.Disk.state g.P.Disk.possible c.args.tier.now c.args.journal.now c.args.site.now c.snapshot.new.self c.args.place c.args.which.now c.args.refreshes c.as_slice.result.now c.in-Ok-snapshot.snapshot c.requires.sound
    (subst (AsksTree c.args.tier.now c.args.place) (sym c.as_slice.ensures.value) c.in-Ok.ensures) c.requires.may
    c.in-Ok-snapshot.ensures.told c.in-Ok-snapshot.ensures.cause.later c.in-Ok-snapshot.ensures.crash.later c.in-Ok-snapshot.ensures.cause.shared
    (bank_certain g.P.Disk.state g.P.Disk.possible g.met.P.Disk.certain c.args.site.now c.snapshot.new.self _ c.in-Ok-snapshot.ensures.told c.in-Ok-snapshot.ensures.crash)
    x of writes c.take_matching.new.tier c.in-Err-take_matching.refused c.in-Err-take_matching.ensures

pub returns-clause-reads : goal.returns-clause-reads
returns-clause-reads g c = λ x of writes.
    read_all g.P.Disk.state g.P.Disk.possible c.args.tier.now c.args.journal.now c.args.site.now c.snapshot.new.self c.args.place c.args.which.now c.args.refreshes c.as_slice.result.now c.in-Ok-snapshot.snapshot c.requires.sound
    (subst (AsksTree c.args.tier.now c.args.place) (sym c.as_slice.ensures.value) c.in-Ok.ensures) c.requires.may
    c.in-Ok-snapshot.ensures.told c.in-Ok-snapshot.ensures.cause.later c.in-Ok-snapshot.ensures.crash.later c.in-Ok-snapshot.ensures.cause.shared
    (bank_certain g.P.Disk.state g.P.Disk.possible g.met.P.Disk.certain c.args.site.now c.snapshot.new.self _ c.in-Ok-snapshot.ensures.told c.in-Ok-snapshot.ensures.crash)
    x of writes c.take_matching.new.tier c.answer_behind.new.journal c.answer_behind.new.site c.args.ready.now c.in-Ok-take_matching.reply c.answer_behind.result c.requires.ready c.in-Ok-take_matching.ensures c.answer_behind.ensures.answers

pub returns-in-Err-take_matching-clause-sound : goal.returns-in-Err-take_matching-clause-sound
returns-in-Err-take_matching-clause-sound g c = matching_sound c.args.tier.now c.take_matching.new.tier c.args.place c.args.which.now c.args.refreshes _ (Err c.in-Err-take_matching.refused) c.requires.sound c.in-Err-take_matching.ensures

pub returns-clause-sound : goal.returns-clause-sound
returns-clause-sound g c = matching_sound c.args.tier.now c.take_matching.new.tier c.args.place c.args.which.now c.args.refreshes _ (Ok c.in-Ok-take_matching.reply) c.requires.sound c.in-Ok-take_matching.ensures

pub returns-in-Err-clause-cause : goal.returns-in-Err-clause-cause
returns-in-Err-clause-cause g c = calm_cause _ _ _ (calm_refused refused.Memory)

pub returns-in-Err-snapshot-clause-cause : goal.returns-in-Err-snapshot-clause-cause
returns-in-Err-snapshot-clause-cause g c = fault_so _ _ _ _ c.in-Err-snapshot.error c.bank_fault.result c.in-Err-snapshot.ensures.told c.in-Err-snapshot.ensures.cause c.in-Err-snapshot.ensures.crash.later c.bank_fault.ensures

pub returns-then-is_full-clause-cause : goal.returns-then-is_full-clause-cause
returns-then-is_full-clause-cause g c = bank_cause _ _ _ _ _ _ (reply_of c.judge_full.result) c.in-Ok-snapshot.ensures.told c.in-Ok-snapshot.ensures.cause c.in-Ok-snapshot.ensures.crash.later (calm_cause _ _ _ c.judge_full.ensures.calm)

pub returns-in-Err-take_matching-clause-cause : goal.returns-in-Err-take_matching-clause-cause
returns-in-Err-take_matching-clause-cause g c = bank_cause _ _ _ _ _ _ (reply_of (Err c.in-Err-take_matching.refused)) c.in-Ok-snapshot.ensures.told c.in-Ok-snapshot.ensures.cause c.in-Ok-snapshot.ensures.crash.later (calm_cause _ _ _ (calm_refused c.in-Err-take_matching.refused))

pub returns-clause-cause : goal.returns-clause-cause
returns-clause-cause g c = bank_cause _ _ _ _ _ _ c.answer_behind.result c.in-Ok-snapshot.ensures.told c.in-Ok-snapshot.ensures.cause c.in-Ok-snapshot.ensures.crash.later c.answer_behind.ensures.cause

pub answer_behind-requires-clause-calm : goal.answer_behind-requires-clause-calm
answer_behind-requires-clause-calm g c = taken_calm _ _ _ _ _ _ _ c.in-Ok-take_matching.ensures

pub answer_behind-requires-clause-fits : goal.answer_behind-requires-clause-fits
answer_behind-requires-clause-fits g c = sym c.is_full.ensures ∙ c.if-is_full.false
