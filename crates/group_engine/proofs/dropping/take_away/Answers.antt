use Rattle.std.proofs.Common.{◌∙◌, arith, refl, sym}
use Rattle.group_catalog.specs.Catalogs.{groups_in}
use Rattle.stored_tier.proofs.ListLaws.{hiding_long}
use Rattle.group_engine.proofs.DroppingLaws.{drop_full, drop_wanting, dropped, sound_without}
use Rattle.group_engine.proofs.GroupGoes.{as_many}
use Rattle.group_engine.proofs.ReadyLaws.{calm_cause, kept_here}
use Rattle.row_types.specs.declared.rule.Refused.TheVariants as refused
use Rattle.group_engine.proofs.dropping.take_away.Goals as goal

pub remove_group-requires-clause-kept : goal.remove_group-requires-clause-kept
remove_group-requires-clause-kept g c =
    let same = as_many c.args.tier.now.schema (groups_in c.args.tier.now.catalog) c.args.tier.now.stores.items c.requires.sound.kept in
    omega (arith, same, c.requires.within)

pub remove_group-requires-clause-hidden : goal.remove_group-requires-clause-hidden
remove_group-requires-clause-hidden g c =
    let long = hiding_long c.args.tier.now.schema (groups_in c.args.tier.now.catalog) c.args.tier.now.stores.items c.args.tier.now.hidden.items c.requires.sound.hiding in
    omega (arith, long, c.requires.within)

pub returns-then-is_full-clause-performs : goal.returns-then-is_full-clause-performs
returns-then-is_full-clause-performs g c =
    drop_full g.P.Disk.state g.P.Disk.possible c.args.tier.now c.args.journal.now c.args.site.now c.args.ready.now c.args.id c.args.place c.slot_is_full.result c.requires.free c.requires.ready (sym c.is_full.ensures ∙ c.if-is_full.true) c.slot_is_full.ensures.told

pub returns-then-is_full-clause-cause : goal.returns-then-is_full-clause-cause
returns-then-is_full-clause-cause g c = calm_cause _ _ c.slot_is_full.result c.slot_is_full.ensures.calm

pub returns-in-Err-clause-performs : goal.returns-in-Err-clause-performs
returns-in-Err-clause-performs g c =
    drop_wanting g.P.Disk.state g.P.Disk.possible c.args.tier.now c.remove_group.new.tier c.args.journal.now c.args.journal.now c.args.site.now c.args.id c.args.place refused.Memory (kept_here _) c.in-Err.ensures.err refl

pub returns-in-Ok-clause-performs : goal.returns-in-Ok-clause-performs
returns-in-Ok-clause-performs g c =
    dropped g.P.Disk.state g.P.Disk.possible c.drop_statement_law.ensures c.label_law.ensures.number c.args.tier.now c.remove_group.new.tier c.args.journal.now c.answer_behind.new.journal c.args.site.now c.answer_behind.new.site c.args.ready.now c.args.id c.args.place c.done.result c.answer_behind.result
    c.requires.sound c.requires.rests c.requires.settled c.requires.free c.in-Ok.ensures.ok c.requires.ready c.answer_behind.ensures.answers c.done.ensures

pub returns-in-Ok-clause-sound : goal.returns-in-Ok-clause-sound
returns-in-Ok-clause-sound g c = sound_without c.args.tier.now c.remove_group.new.tier c.args.place c.requires.sound c.requires.settled c.in-Ok.ensures.ok
