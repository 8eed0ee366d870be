use Rattle.std.proofs.Common.{◌∙◌, sym}
use Rattle.group_engine.proofs.GroupComes.{sound_kept}
use Rattle.group_engine.proofs.ReadyLaws.{calm_cause}
use Rattle.group_engine.proofs.UnloadDone.{sound_cut, unload_full, unload_refused, unload_wanting, unloaded_here}
use Rattle.stored_tier.proofs.QuietLaws.{calm_refused}
use Rattle.group_engine.proofs.unloading.unload_matching.Goals as goal

pub returns-in-Err-clause-performs : goal.returns-in-Err-clause-performs
returns-in-Err-clause-performs g c =
    unload_refused g.P.Disk.state g.P.Disk.possible c.args.tier.now c.judge_instances.new.tier c.args.journal.now c.args.site.now c.args.ready.now c.args.id c.args.aim.now c.args.all c.in-Err.refused c.in-Err.ensures.told c.in-Err.ensures.same c.requires.kind

pub returns-in-Err-clause-cause : goal.returns-in-Err-clause-cause
returns-in-Err-clause-cause g c = calm_cause _ _ _ (calm_refused c.in-Err.refused)

pub returns-then-is_full-clause-performs : goal.returns-then-is_full-clause-performs
returns-then-is_full-clause-performs g c =
    unload_full g.P.Disk.state g.P.Disk.possible c.args.tier.now c.judge_instances.new.tier c.args.journal.now c.args.site.now c.args.ready.now c.args.id c.args.aim.now c.args.all c.slot_is_full.result c.in-Ok.ensures.told c.in-Ok.ensures.same c.requires.kind (sym c.is_full.ensures ∙ c.if-is_full.true) c.slot_is_full.ensures.told

pub returns-then-is_full-clause-cause : goal.returns-then-is_full-clause-cause
returns-then-is_full-clause-cause g c = calm_cause _ _ c.slot_is_full.result c.slot_is_full.ensures.calm

pub returns-in-Err-cut_kept-clause-performs : goal.returns-in-Err-cut_kept-clause-performs
returns-in-Err-cut_kept-clause-performs g c =
    unload_wanting g.P.Disk.state g.P.Disk.possible c.args.tier.now c.judge_instances.new.tier c.cut_kept.new.tier c.args.journal.now c.args.site.now c.args.ready.now c.args.id c.args.aim.now c.args.all c.in-Ok.ensures.same c.in-Err-cut_kept.ensures.err

pub returns-in-Err-cut_kept-clause-sound : goal.returns-in-Err-cut_kept-clause-sound
returns-in-Err-cut_kept-clause-sound g c = sound_kept c.judge_instances.new.tier c.cut_kept.new.tier c.in-Ok.ensures.sound c.in-Err-cut_kept.ensures.err

pub returns-in-Ok-cut_kept-clause-performs : goal.returns-in-Ok-cut_kept-clause-performs
returns-in-Ok-cut_kept-clause-performs g c =
    unloaded_here g.P.Disk.state g.P.Disk.possible c.unload_statement_law.ensures c.drop_instance_law.ensures c.args.tier.now c.judge_instances.new.tier c.cut_kept.new.tier c.args.journal.now c.answer_behind.new.journal c.args.site.now c.answer_behind.new.site c.args.ready.now
    c.args.id c.args.aim.now c.args.all c.in-Ok-cut_kept.count c.done.result c.answer_behind.result c.in-Ok.ensures.told c.in-Ok.ensures.same c.in-Ok.ensures.sound c.requires.kind c.in-Ok-cut_kept.ensures.ok c.answer_behind.ensures.answers c.done.ensures

pub returns-in-Ok-cut_kept-clause-sound : goal.returns-in-Ok-cut_kept-clause-sound
returns-in-Ok-cut_kept-clause-sound g c =
    sound_cut c.judge_instances.new.tier c.cut_kept.new.tier c.args.aim.now c.args.all c.in-Ok-cut_kept.count c.in-Ok.ensures.sound c.in-Ok-cut_kept.ensures.ok
