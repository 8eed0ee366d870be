use Rattle.std.proofs.Common.{◌∙◌, false, sym}
use Rattle.group_engine.proofs.GroupComes.{sound_kept}
use Rattle.group_engine.proofs.ReadyLaws.{calm_cause}
use Rattle.group_engine.proofs.UnloadDone.{sound_cut}
use Rattle.group_engine.proofs.UnloadListed.{listed_full, listed_here, listed_refused}
use Rattle.group_engine.proofs.UnloadWhole.{whole_wanting}
use Rattle.stored_tier.proofs.QuietLaws.{calm_refused}
use Rattle.group_engine.proofs.unload_listed.unload_listed.Goals as goal

pub returns-in-Err-clause-performs : goal.returns-in-Err-clause-performs
returns-in-Err-clause-performs g c = λ id all.
    listed_refused g.P.Disk.state g.P.Disk.possible c.args.tier.now c.args.journal.now c.args.site.now c.args.ready.now id c.args.aim.now all c.requires.kind c.requires.sound c.in-Err.refused c.in-Err.ensures

pub returns-in-Err-clause-cause : goal.returns-in-Err-clause-cause
returns-in-Err-clause-cause g c = calm_cause _ _ _ (calm_refused c.in-Err.refused)

pub returns-then-is_full-clause-performs : goal.returns-then-is_full-clause-performs
returns-then-is_full-clause-performs g c = λ id all.
    listed_full g.P.Disk.state g.P.Disk.possible c.args.tier.now c.args.journal.now c.args.site.now c.args.ready.now id c.args.aim.now all c.requires.kind c.requires.sound c.slot_is_full.result c.in-Ok.ensures (sym c.is_full.ensures ∙ c.if-is_full.true) c.slot_is_full.ensures.told

pub returns-then-is_full-clause-cause : goal.returns-then-is_full-clause-cause
returns-then-is_full-clause-cause g c = calm_cause _ _ c.slot_is_full.result c.slot_is_full.ensures.calm

pub returns-in-Err-cut_kept-clause-performs : goal.returns-in-Err-cut_kept-clause-performs
returns-in-Err-cut_kept-clause-performs g c = λ id all.
    whole_wanting g.P.Disk.state g.P.Disk.possible c.args.tier.now c.cut_kept.new.tier c.args.journal.now c.args.site.now c.args.ready.now id c.args.aim.now all c.in-Err-cut_kept.ensures.err

pub returns-in-Err-cut_kept-clause-sound : goal.returns-in-Err-cut_kept-clause-sound
returns-in-Err-cut_kept-clause-sound g c = sound_kept c.args.tier.now c.cut_kept.new.tier c.requires.sound c.in-Err-cut_kept.ensures.err

pub returns-in-Ok-cut_kept-clause-performs : goal.returns-in-Ok-cut_kept-clause-performs
returns-in-Ok-cut_kept-clause-performs g c = λ id all.
    listed_here g.P.Disk.state g.P.Disk.possible c.args.tier.now c.args.journal.now c.args.site.now c.args.ready.now id c.args.aim.now all c.requires.kind c.requires.sound c.drop_instance_law.ensures c.if-not-lists_shown.ensures c.cut_kept.new.tier c.answer_behind.new.journal c.answer_behind.new.site
    c.in-Ok-cut_kept.count c.done.result c.answer_behind.result c.in-Ok.ensures c.in-Ok-cut_kept.ensures.ok c.answer_behind.ensures.answers c.done.ensures

pub returns-in-Ok-cut_kept-clause-sound : goal.returns-in-Ok-cut_kept-clause-sound
returns-in-Ok-cut_kept-clause-sound g c =
    sound_cut c.args.tier.now c.cut_kept.new.tier c.args.aim.now false c.in-Ok-cut_kept.count c.requires.sound c.in-Ok-cut_kept.ensures.ok
