use Rattle.std.proofs.Common.{◌∙◌, ap, arith, length, refl, sym}
use Rattle.cache_tier.specs.Groups.{definitions_of}
use Rattle.cache_tier.specs.Sets.{alone, changed_from}
use Rattle.group_catalog.specs.Catalogs.{groups_in}
use Rattle.stored_tier.specs.Refreshing.{choice_of, positioned}
use Rattle.group_engine.proofs.AlteringLaws.{full_with, not_refreshed, refreshed_with}
use Rattle.group_engine.proofs.ChangedLists.{changed_long}
use Rattle.group_engine.proofs.ReadyLaws.{calm_cause, fault_cause, read_cause}
use Rattle.stored_tier.proofs.SoundParts.{changed_defs, sound_regrouped}
use Rattle.group_engine.proofs.altering.alter_with.Goals as goal

pub with_state-requires : goal.with_state-requires
with_state-requires g c =
    let within = c.requires.within in
    let long = ap length c.show_fresh.ensures.shown.groups ∙ changed_long (choice_of c.args.chosen) (positioned c.in-Ok.fresh.position.0) 0 (groups_in c.args.tier.now.catalog) in
    omega (arith, within, long)

pub returns-in-Err-clause-alters : goal.returns-in-Err-clause-alters
returns-in-Err-clause-alters g c = λ w x at stands apart keeps of there reads chosen_is.
    not_refreshed g.P.Disk.state g.P.Disk.possible c.args.tier.now c.args.journal.now c.args.site.now c.read_fresh.new.site w c.args.place 0 x c.args.state c.args.ready.now (choice_of c.args.chosen) c.read_fresh.ensures.certain keeps of
    c.in-Err.error c.bank_fault.result (c.in-Err.ensures.reads w at stands apart) c.bank_fault.ensures

pub returns-then-is_full-clause-alters : goal.returns-then-is_full-clause-alters
returns-then-is_full-clause-alters g c = λ w x at stands apart keeps of there reads chosen_is.
    full_with g.P.Disk.state g.P.Disk.possible c.args.tier.now c.args.journal.now c.args.site.now c.read_fresh.new.site w c.args.place c.in-Ok.fresh.position.0 x c.args.state c.args.ready.now (choice_of c.args.chosen) c.read_fresh.ensures.certain keeps of
    c.slot_is_full.result (c.in-Ok.ensures.reads w at stands apart).0 (sym c.is_full.ensures ∙ c.if-is_full.true) c.slot_is_full.ensures.told

pub returns-else-is_full-clause-sound : goal.returns-else-is_full-clause-sound
returns-else-is_full-clause-sound g c =
    sound_regrouped c.show_fresh.new.tier c.with_state.new.self c.show_fresh.ensures.sound
    (ap definitions_of c.with_state.ensures ∙ changed_defs (alone c.args.place) _ 0 (groups_in c.show_fresh.new.tier.catalog) (λ x. refl))

pub returns-else-is_full-clause-alters : goal.returns-else-is_full-clause-alters
returns-else-is_full-clause-alters g c = λ w x at stands apart keeps of there reads chosen_is.
    let read = c.in-Ok.ensures.reads w at stands apart in
    let shown = c.show_fresh.ensures.shown in
    let sound = returns-else-is_full-clause-sound g c in
    refreshed_with g.P.Disk.state g.P.Disk.possible c.args.tier.now c.args.journal.now c.args.site.now c.read_fresh.new.site w c.args.place c.in-Ok.fresh.position.0 x c.args.state c.args.ready.now (choice_of c.args.chosen) c.read_fresh.ensures.certain keeps of
    _ c.answer_behind.new.journal c.answer_behind.new.site c.in-Ok.fresh.made.items c.done.result c.answer_behind.result there reads chosen_is read.0 read.1
    (record {
      beside = record { schema = shown.schema; stale = shown.stale; sessions = shown.sessions; unsettled = shown.unsettled; writers = shown.writers; next = shown.next; clock = shown.clock };
      groups = c.with_state.ensures ∙ ap (changed_from (alone c.args.place) _ 0) shown.groups;
      stores = shown.stores;
      hidden = shown.hidden;
      was = c.requires.sound.kept;
      kept = sound.kept;
      hid = c.requires.sound.hiding;
      long = c.in-Ok.ensures.formed.long;
    })
    c.answer_behind.ensures.answers c.done.ensures

pub returns-in-Err-clause-cause : goal.returns-in-Err-clause-cause
returns-in-Err-clause-cause g c = fault_cause _ _ _ c.in-Err.error c.bank_fault.result c.in-Err.ensures.called c.bank_fault.ensures

pub returns-then-is_full-clause-cause : goal.returns-then-is_full-clause-cause
returns-then-is_full-clause-cause g c = read_cause _ _ _ _ _ _ c.in-Ok.ensures.called (calm_cause _ _ c.slot_is_full.result c.slot_is_full.ensures.calm)

pub returns-else-is_full-clause-cause : goal.returns-else-is_full-clause-cause
returns-else-is_full-clause-cause g c = read_cause _ _ _ _ _ _ c.in-Ok.ensures.called c.answer_behind.ensures.cause
