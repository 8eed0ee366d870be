use Rattle.std.proofs.Common.{false, subst, sym}
use Rattle.std.specs.Prelude.{Err, Ok}
use Rattle.propagators.proofs.CertainLaws.{bank_certain}
use Rattle.group_engine.specs.Taking.{AsksTree}
use Rattle.group_engine.proofs.TakenParts.{matching_sound}
use Rattle.reopening.specs.Reloading.{all_instances}
use Rattle.reopening.proofs.HoldingLaws.{held_all, held_failed, held_none, held_wanting, quiet_taken}
use Rattle.reopening.proofs.holding.hold_all.Goals as goal

pub returns-in-Err-clause-performs : goal.returns-in-Err-clause-performs
returns-in-Err-clause-performs g c = λ seen there wanted. held_wanting c.args.tier.now _ c.args.place

pub returns-in-Err-snapshot-clause-performs : goal.returns-in-Err-snapshot-clause-performs
returns-in-Err-snapshot-clause-performs g c = λ seen there wanted.
    held_failed c.args.tier.now _ _ c.args.place c.as_slice.result.now c.in-Err-snapshot.error c.in-Err-snapshot.ensures.told c.in-Err-snapshot.ensures.cause.later c.in-Err-snapshot.ensures.crash.later c.in-Err-snapshot.ensures.cause.shared

pub returns-in-Err-snapshot-clause-certain : goal.returns-in-Err-snapshot-clause-certain
returns-in-Err-snapshot-clause-certain g c = (bank_certain g.P.Disk.state g.P.Disk.possible g.met.P.Disk.certain c.args.site.now c.snapshot.new.self _ c.in-Err-snapshot.ensures.told c.in-Err-snapshot.ensures.crash)

pub returns-in-Err-take_matching-clause-performs : goal.returns-in-Err-take_matching-clause-performs
returns-in-Err-take_matching-clause-performs g c = λ seen there wanted.
    held_none c.args.tier.now c.take_matching.new.tier _ _ c.args.place c.as_slice.result.now c.in-Ok-snapshot.snapshot c.in-Err-take_matching.refused
    c.in-Ok-snapshot.ensures.told c.in-Ok-snapshot.ensures.cause.later c.in-Ok-snapshot.ensures.crash.later c.in-Ok-snapshot.ensures.cause.shared c.in-Err-take_matching.ensures

pub returns-in-Err-take_matching-clause-sound : goal.returns-in-Err-take_matching-clause-sound
returns-in-Err-take_matching-clause-sound g c = matching_sound c.args.tier.now c.take_matching.new.tier c.args.place all_instances false _ (Err c.in-Err-take_matching.refused) c.requires.sound c.in-Err-take_matching.ensures

pub returns-in-Err-take_matching-clause-certain : goal.returns-in-Err-take_matching-clause-certain
returns-in-Err-take_matching-clause-certain g c = (bank_certain g.P.Disk.state g.P.Disk.possible g.met.P.Disk.certain c.args.site.now c.snapshot.new.self _ c.in-Ok-snapshot.ensures.told c.in-Ok-snapshot.ensures.crash)

pub returns-clause-performs : goal.returns-clause-performs
returns-clause-performs g c = λ seen there wanted.
    held_all g.P.Disk.state g.P.Disk.possible c.args.tier.now c.args.site.now c.snapshot.new.self c.args.place c.requires.sound c.requires.settled c.as_slice.result.now
    (subst (AsksTree c.args.tier.now c.args.place) (sym c.as_slice.ensures.value) c.in-Ok.ensures) c.in-Ok-snapshot.snapshot
    c.in-Ok-snapshot.ensures.told c.in-Ok-snapshot.ensures.cause.later c.in-Ok-snapshot.ensures.crash.later c.in-Ok-snapshot.ensures.cause.shared
    (bank_certain g.P.Disk.state g.P.Disk.possible g.met.P.Disk.certain c.args.site.now c.snapshot.new.self _ c.in-Ok-snapshot.ensures.told c.in-Ok-snapshot.ensures.crash)
    seen there wanted c.take_matching.new.tier c.in-Ok-take_matching.reply c.in-Ok-take_matching.ensures
    (matching_sound c.args.tier.now c.take_matching.new.tier c.args.place all_instances false _ (Ok c.in-Ok-take_matching.reply) c.requires.sound c.in-Ok-take_matching.ensures)

pub returns-clause-sound : goal.returns-clause-sound
returns-clause-sound g c = matching_sound c.args.tier.now c.take_matching.new.tier c.args.place all_instances false _ (Ok c.in-Ok-take_matching.reply) c.requires.sound c.in-Ok-take_matching.ensures

pub returns-clause-quiet : goal.returns-clause-quiet
returns-clause-quiet g c = quiet_taken c.args.tier.now c.take_matching.new.tier c.args.place _ c.in-Ok-take_matching.reply c.requires.settled c.in-Ok-take_matching.ensures

pub returns-clause-certain : goal.returns-clause-certain
returns-clause-certain g c = (bank_certain g.P.Disk.state g.P.Disk.possible g.met.P.Disk.certain c.args.site.now c.snapshot.new.self _ c.in-Ok-snapshot.ensures.told c.in-Ok-snapshot.ensures.crash)
