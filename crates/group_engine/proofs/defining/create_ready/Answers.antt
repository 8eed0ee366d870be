use Rattle.std.proofs.Common.{◌∙◌, sym}
use Rattle.group_engine.proofs.DefiningLaws.{create_wanting, group_created, group_full, sound_created}
use Rattle.group_engine.proofs.GroupComes.{sound_kept}
use Rattle.group_engine.proofs.ReadyLaws.{calm_cause, kept_here}
use Rattle.group_engine.proofs.defining.create_ready.Goals as goal

pub returns-then-is_full-clause-performs : goal.returns-then-is_full-clause-performs
returns-then-is_full-clause-performs g c =
    group_full g.P.Disk.state g.P.Disk.possible c.args.tier.now c.args.journal.now c.args.site.now c.args.ready.now c.args.id c.args.def.declared c.args.def c.slot_is_full.result c.requires.made c.requires.free c.requires.ready (sym c.is_full.ensures ∙ c.if-is_full.true) c.slot_is_full.ensures.told

pub returns-then-is_full-clause-cause : goal.returns-then-is_full-clause-cause
returns-then-is_full-clause-cause g c = calm_cause _ _ c.slot_is_full.result c.slot_is_full.ensures.calm

pub returns-in-Err-clause-performs : goal.returns-in-Err-clause-performs
returns-in-Err-clause-performs g c =
    create_wanting g.P.Disk.state g.P.Disk.possible c.args.tier.now c.add_group.new.tier c.args.journal.now c.args.journal.now c.args.site.now c.args.id c.args.def.declared (kept_here _) c.in-Err.ensures.err

pub returns-in-Err-clause-sound : goal.returns-in-Err-clause-sound
returns-in-Err-clause-sound g c = sound_kept c.args.tier.now c.add_group.new.tier c.requires.sound c.in-Err.ensures.err

pub returns-in-Ok-clause-performs : goal.returns-in-Ok-clause-performs
returns-in-Ok-clause-performs g c =
    group_created g.P.Disk.state g.P.Disk.possible c.definition_law.ensures.has_new_tables c.definition_law.ensures.writes_all c.definition_law.ensures.stands_apart c.group_shown_law.ensures c.args.tier.now c.add_group.new.tier c.args.journal.now c.answer_behind.new.journal c.args.site.now c.answer_behind.new.site c.args.ready.now
    c.args.id c.args.def.declared c.args.def c.done.result c.answer_behind.result c.requires.sound c.requires.made c.in-Ok.ensures.ok c.requires.free c.requires.ready (sym c.is_full.ensures ∙ c.if-is_full.false) c.answer_behind.ensures.answers c.done.ensures

pub returns-in-Ok-clause-sound : goal.returns-in-Ok-clause-sound
returns-in-Ok-clause-sound g c = sound_created c.args.tier.now c.add_group.new.tier c.args.def.declared c.args.def c.requires.sound c.requires.made c.in-Ok.ensures.ok
