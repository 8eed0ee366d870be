use Rattle.std.proofs.Common.{◌∙◌, ap, refl, sym}
use Rattle.cache_tier.specs.Groups.{definitions_of}
use Rattle.cache_tier.specs.Sets.{alone}
use Rattle.group_catalog.specs.Catalogs.{groups_in}
use Rattle.group_engine.proofs.AlteringLaws.{alone_full, set_alone}
use Rattle.group_engine.proofs.ReadyLaws.{calm_cause}
use Rattle.stored_tier.proofs.SoundParts.{changed_defs, sound_regrouped}
use Rattle.group_engine.proofs.altering.give_state.Goals as goal

pub returns-clause-sound : goal.returns-clause-sound
returns-clause-sound g c =
    sound_regrouped c.args.tier.now c.with_state.new.self c.requires.sound
    (ap definitions_of c.with_state.ensures ∙ changed_defs (alone c.args.place) _ 0 (groups_in c.args.tier.now.catalog) (λ x. refl))

pub returns-then-is_full-clause-alters : goal.returns-then-is_full-clause-alters
returns-then-is_full-clause-alters g c =
    alone_full g.P.Disk.state g.P.Disk.possible c.args.tier.now c.args.journal.now c.args.site.now c.args.ready.now c.args.state c.args.place c.slot_is_full.result (sym c.is_full.ensures ∙ c.if-is_full.true) c.slot_is_full.ensures.told

pub returns-then-is_full-clause-cause : goal.returns-then-is_full-clause-cause
returns-then-is_full-clause-cause g c = calm_cause _ _ c.slot_is_full.result c.slot_is_full.ensures.calm

pub returns-clause-alters : goal.returns-clause-alters
returns-clause-alters g c = λ w x at stands keeps of there none.
    let sound = returns-clause-sound g c in
    set_alone c.args.tier.now _ w c.args.place c.args.state stands
    (record {
      beside = record { schema = refl; stale = refl; sessions = refl; unsettled = refl; writers = refl; next = refl; clock = refl };
      groups = c.with_state.ensures;
      stores = refl;
      hidden = refl;
      was = c.requires.sound.kept;
      kept = sound.kept;
    })
    x there none g.P.Disk.state g.P.Disk.possible c.args.journal.now c.answer_behind.new.journal c.args.site.now c.answer_behind.new.site c.args.ready.now at keeps of c.done.result c.answer_behind.result c.answer_behind.ensures.answers c.done.ensures
