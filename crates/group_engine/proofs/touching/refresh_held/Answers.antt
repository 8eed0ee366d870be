use Rattle.std.proofs.Common.{◌∙◌, Err, ap, refl, subst, sym, true}
use Rattle.propagators.proofs.CertainLaws.{bank_certain}
use Rattle.row_types.specs.declared.rule.Refused.TheVariants as refused
use Rattle.cache_tier.specs.Groups.{definitions_of}
use Rattle.cache_tier.specs.Sets.{alone}
use Rattle.group_catalog.specs.Catalogs.{groups_in}
use Rattle.stored_tier.specs.Performing.{reply_of}
use Rattle.stored_tier.proofs.QuietLaws.{calm_refused}
use Rattle.stored_tier.proofs.SoundParts.{changed_defs, sound_regrouped}
use Rattle.group_engine.specs.Taking.{AsksTree}
use Rattle.group_engine.specs.Touching.{TellsHeldOverflow}
use Rattle.group_engine.proofs.NotedLaws.{ready_read_so}
use Rattle.group_engine.proofs.ReadyLaws.{bank_cause, calm_cause, fault_so, kept_here}
use Rattle.group_engine.proofs.TakenLaws.{reads_failed, reads_wanting}
use Rattle.group_engine.proofs.TouchingLaws.{held_done, held_full, held_over}
use Rattle.group_engine.proofs.touching.refresh_held.Goals as goal

pub returns-in-Err-clause-reads : goal.returns-in-Err-clause-reads
returns-in-Err-clause-reads g c = λ x of writes. reads_wanting g.P.Disk.state g.P.Disk.possible c.args.tier.now c.args.journal.now c.args.journal.now c.args.site.now c.args.place x true (kept_here _)

pub returns-in-Err-clause-cause : goal.returns-in-Err-clause-cause
returns-in-Err-clause-cause g c = calm_cause _ _ _ (calm_refused refused.Memory)

pub returns-in-Err-snapshot-clause-reads : goal.returns-in-Err-snapshot-clause-reads
returns-in-Err-snapshot-clause-reads g c = λ x of writes.
    reads_failed g.P.Disk.state g.P.Disk.possible c.args.tier.now c.args.journal.now c.args.site.now c.snapshot.new.self c.args.place x true c.as_slice.result.now c.in-Err-snapshot.error c.bank_fault.result c.bank_fault.ensures
    c.in-Err-snapshot.ensures.told c.in-Err-snapshot.ensures.cause.later c.in-Err-snapshot.ensures.crash.later c.in-Err-snapshot.ensures.cause.shared
    (bank_certain g.P.Disk.state g.P.Disk.possible g.met.P.Disk.certain c.args.site.now c.snapshot.new.self _ c.in-Err-snapshot.ensures.told c.in-Err-snapshot.ensures.crash)

pub returns-in-Err-snapshot-clause-cause : goal.returns-in-Err-snapshot-clause-cause
returns-in-Err-snapshot-clause-cause g c = fault_so _ _ _ _ c.in-Err-snapshot.error c.bank_fault.result c.in-Err-snapshot.ensures.told c.in-Err-snapshot.ensures.cause c.in-Err-snapshot.ensures.crash.later c.bank_fault.ensures

pub returns-then-held_overflows_at-clause-reads : goal.returns-then-held_overflows_at-clause-reads
returns-then-held_overflows_at-clause-reads g c = λ x of writes w at stands apart keeps here.
    held_over g.P.Disk.state g.P.Disk.possible c.args.tier.now c.args.journal.now c.args.site.now c.snapshot.new.self c.args.place c.args.which.now x of writes c.requires.sound c.requires.dynamic c.as_slice.result.now
    (subst (AsksTree c.args.tier.now c.args.place) (sym c.as_slice.ensures.value) c.in-Ok.ensures) c.in-Ok-snapshot.snapshot
    c.in-Ok-snapshot.ensures.told c.in-Ok-snapshot.ensures.cause.later c.in-Ok-snapshot.ensures.crash.later c.in-Ok-snapshot.ensures.cause.shared
    (bank_certain g.P.Disk.state g.P.Disk.possible g.met.P.Disk.certain c.args.site.now c.snapshot.new.self _ c.in-Ok-snapshot.ensures.told c.in-Ok-snapshot.ensures.crash) w at stands apart keeps here
    (subst (TellsHeldOverflow c.args.tier.now c.args.place c.args.which.now c.in-Ok-snapshot.snapshot.tables) c.if-held_overflows_at.true c.held_overflows_at.ensures) c.overflow.result c.overflow.ensures

pub returns-then-held_overflows_at-clause-cause : goal.returns-then-held_overflows_at-clause-cause
returns-then-held_overflows_at-clause-cause g c = bank_cause _ _ _ _ _ _ (reply_of (Err (refused.Rule c.overflow.result))) c.in-Ok-snapshot.ensures.told c.in-Ok-snapshot.ensures.cause c.in-Ok-snapshot.ensures.crash.later (calm_cause _ _ _ (calm_refused (refused.Rule c.overflow.result)))

pub returns-then-is_full-clause-reads : goal.returns-then-is_full-clause-reads
returns-then-is_full-clause-reads g c = λ x of writes w at stands apart keeps here.
    held_full g.P.Disk.state g.P.Disk.possible c.args.tier.now c.args.journal.now c.args.site.now c.snapshot.new.self c.args.place c.args.which.now x of writes c.requires.sound c.requires.dynamic c.as_slice.result.now
    (subst (AsksTree c.args.tier.now c.args.place) (sym c.as_slice.ensures.value) c.in-Ok.ensures) c.in-Ok-snapshot.snapshot
    c.in-Ok-snapshot.ensures.told c.in-Ok-snapshot.ensures.cause.later c.in-Ok-snapshot.ensures.crash.later c.in-Ok-snapshot.ensures.cause.shared
    (bank_certain g.P.Disk.state g.P.Disk.possible g.met.P.Disk.certain c.args.site.now c.snapshot.new.self _ c.in-Ok-snapshot.ensures.told c.in-Ok-snapshot.ensures.crash) w at stands apart keeps here
    (subst (TellsHeldOverflow c.args.tier.now c.args.place c.args.which.now c.in-Ok-snapshot.snapshot.tables) c.if-held_overflows_at.false c.held_overflows_at.ensures)
    c.args.ready.now (ready_read_so c.args.tier.now w w c.args.journal.now c.args.place x.group c.args.ready.now stands refl here.there c.requires.ready) (sym c.is_full.ensures ∙ c.if-is_full.true) c.slot_is_full.result c.slot_is_full.ensures.told

pub returns-then-is_full-clause-cause : goal.returns-then-is_full-clause-cause
returns-then-is_full-clause-cause g c = bank_cause _ _ _ _ _ _ c.slot_is_full.result c.in-Ok-snapshot.ensures.told c.in-Ok-snapshot.ensures.cause c.in-Ok-snapshot.ensures.crash.later (calm_cause _ _ _ c.slot_is_full.ensures.calm)

pub returns-clause-sound : goal.returns-clause-sound
returns-clause-sound g c =
    sound_regrouped c.args.tier.now c.with_loaded.new.self c.requires.sound
    (ap definitions_of c.with_loaded.ensures ∙ changed_defs (alone c.args.place) _ 0 (groups_in c.args.tier.now.catalog) (λ x. refl))

pub returns-clause-reads : goal.returns-clause-reads
returns-clause-reads g c = λ x of writes w at stands apart keeps here.
    let sound = returns-clause-sound g c in
    held_done g.P.Disk.state g.P.Disk.possible c.args.tier.now c.args.journal.now c.args.site.now c.snapshot.new.self c.args.place c.args.which.now x of writes c.requires.sound c.requires.dynamic c.as_slice.result.now
    (subst (AsksTree c.args.tier.now c.args.place) (sym c.as_slice.ensures.value) c.in-Ok.ensures) c.in-Ok-snapshot.snapshot
    c.in-Ok-snapshot.ensures.told c.in-Ok-snapshot.ensures.cause.later c.in-Ok-snapshot.ensures.crash.later c.in-Ok-snapshot.ensures.cause.shared
    (bank_certain g.P.Disk.state g.P.Disk.possible g.met.P.Disk.certain c.args.site.now c.snapshot.new.self _ c.in-Ok-snapshot.ensures.told c.in-Ok-snapshot.ensures.crash) w at stands apart keeps here
    (subst (TellsHeldOverflow c.args.tier.now c.args.place c.args.which.now c.in-Ok-snapshot.snapshot.tables) c.if-held_overflows_at.false c.held_overflows_at.ensures)
    _ c.count_held_at.result c.count_held_at.ensures
    (record {
      beside = record { schema = refl; stale = refl; sessions = refl; unsettled = refl; writers = refl; next = refl; clock = refl };
      groups = c.with_loaded.ensures;
      stores = refl;
      hidden = refl;
      was = c.requires.sound.kept;
      kept = sound.kept;
    })
    c.answer_behind.new.journal c.answer_behind.new.site c.args.ready.now (ready_read_so c.args.tier.now w w c.args.journal.now c.args.place x.group c.args.ready.now stands refl here.there c.requires.ready)
    c.done-reply.result c.answer_behind.result c.done-reply.ensures c.answer_behind.ensures.answers

pub returns-clause-cause : goal.returns-clause-cause
returns-clause-cause g c = bank_cause _ _ _ _ _ _ c.answer_behind.result c.in-Ok-snapshot.ensures.told c.in-Ok-snapshot.ensures.cause c.in-Ok-snapshot.ensures.crash.later c.answer_behind.ensures.cause

pub answer_behind-requires-clause-fits : goal.answer_behind-requires-clause-fits
answer_behind-requires-clause-fits g c = sym c.is_full.ensures ∙ c.if-is_full.false
