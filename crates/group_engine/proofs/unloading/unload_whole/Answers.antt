use Rattle.std.proofs.Common.{◌∙◌, sym}
use Rattle.group_engine.proofs.GroupComes.{sound_kept}
use Rattle.group_engine.proofs.ReadyLaws.{calm_cause}
use Rattle.group_engine.proofs.UnloadWhole.{cleared_here, sound_cleared, whole_full, whole_wanting}
use Rattle.group_engine.proofs.unloading.unload_whole.Goals as goal

pub returns-then-is_full-clause-performs : goal.returns-then-is_full-clause-performs
returns-then-is_full-clause-performs g c = λ id all.
    whole_full g.P.Disk.state g.P.Disk.possible c.args.tier.now c.args.journal.now c.args.site.now c.args.ready.now id c.args.aim.now all c.slot_is_full.result (c.is_listed_at.ensures c.if-is_listed_at.false) c.requires.kind (sym c.is_full.ensures ∙ c.if-is_full.true) c.slot_is_full.ensures.told

pub returns-then-is_full-clause-cause : goal.returns-then-is_full-clause-cause
returns-then-is_full-clause-cause g c = calm_cause _ _ c.slot_is_full.result c.slot_is_full.ensures.calm

pub returns-in-Err-clause-performs : goal.returns-in-Err-clause-performs
returns-in-Err-clause-performs g c = λ id all. whole_wanting g.P.Disk.state g.P.Disk.possible c.args.tier.now c.clear_kept.new.tier c.args.journal.now c.args.site.now c.args.ready.now id c.args.aim.now all c.in-Err.ensures.err

pub returns-in-Err-clause-sound : goal.returns-in-Err-clause-sound
returns-in-Err-clause-sound g c = sound_kept c.args.tier.now c.clear_kept.new.tier c.requires.sound c.in-Err.ensures.err

pub returns-in-Ok-clause-performs : goal.returns-in-Ok-clause-performs
returns-in-Ok-clause-performs g c = λ id all.
    cleared_here g.P.Disk.state g.P.Disk.possible c.args.tier.now c.clear_kept.new.tier c.args.journal.now c.answer_behind.new.journal c.args.site.now c.answer_behind.new.site c.args.ready.now id c.args.aim.now all c.in-Ok.count c.done.result c.answer_behind.result
    c.requires.sound (c.is_listed_at.ensures c.if-is_listed_at.false) c.requires.kind c.in-Ok.ensures.ok c.answer_behind.ensures.answers c.done.ensures

pub returns-in-Ok-clause-sound : goal.returns-in-Ok-clause-sound
returns-in-Ok-clause-sound g c = sound_cleared c.args.tier.now c.clear_kept.new.tier c.args.aim.now c.in-Ok.count c.requires.sound c.in-Ok.ensures.ok
