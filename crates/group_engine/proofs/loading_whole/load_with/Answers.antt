use Rattle.std.proofs.Common.{◌∙◌, ap, arith, length, refl, sym}
use Rattle.cache_tier.specs.declared.reply.Last.TheVariants.{Done}
use Rattle.cache_tier.specs.Groups.{definitions_of}
use Rattle.cache_tier.specs.Sets.{alone, changed_from}
use Rattle.cache_tier.specs.Worlds.{only}
use Rattle.group_catalog.specs.Catalogs.{groups_in}
use Rattle.stored_tier.specs.Refreshing.{choice_of, positioned}
use Rattle.group_engine.proofs.ChangedLists.{changed_long}
use Rattle.group_engine.proofs.ReadyLaws.{calm_cause, fault_cause, read_cause}
use Rattle.group_engine.proofs.WholeLaws.{keeps_read, loaded_once, ready_read, whole_failed, whole_full, whole_read}
use Rattle.stored_tier.proofs.SoundParts.{changed_defs, sound_regrouped}
use Rattle.group_engine.proofs.loading_whole.load_with.Goals as goal

pub with_loaded-requires : goal.with_loaded-requires
with_loaded-requires g c =
    let within = c.requires.within in
    let long = ap length c.show_fresh.ensures.shown.groups ∙ changed_long (choice_of c.args.chosen) (positioned c.in-Ok.fresh.position.0) 0 (groups_in c.args.tier.now.catalog) in
    omega (arith, within, long)

pub with_state-requires : goal.with_state-requires
with_state-requires g c =
    let within = c.requires.within in
    let long = ap length c.show_fresh.ensures.shown.groups ∙ changed_long (choice_of c.args.chosen) (positioned c.in-Ok.fresh.position.0) 0 (groups_in c.args.tier.now.catalog) in
    let then = ap length c.with_loaded.ensures ∙ changed_long (alone c.args.place) _ 0 (groups_in c.show_fresh.new.tier.catalog) in
    omega (arith, within, long, then)

pub returns-else-is_full-clause-sound : goal.returns-else-is_full-clause-sound
returns-else-is_full-clause-sound g c =
    sound_regrouped c.show_fresh.new.tier c.with_state.new.self c.show_fresh.ensures.sound
    (ap definitions_of c.with_state.ensures ∙ changed_defs (alone c.args.place) _ 0 (groups_in c.with_loaded.new.self) (λ x. refl)
    ∙ ap definitions_of c.with_loaded.ensures ∙ changed_defs (alone c.args.place) _ 0 (groups_in c.show_fresh.new.tier.catalog) (λ x. refl))

pub returns-in-Err-clause-loads : goal.returns-in-Err-clause-loads
returns-in-Err-clause-loads g c = λ w x at stands apart keeps there reads chosen_is.
    whole_failed g.P.Disk.state g.P.Disk.possible c.args.tier.now c.args.journal.now c.args.site.now c.read_fresh.new.site w c.args.place x c.args.ready.now c.read_fresh.ensures.certain keeps stands there c.requires.ready
    c.in-Err.error c.bank_fault.result (c.in-Err.ensures.reads w at stands apart) c.bank_fault.ensures

pub returns-then-is_full-clause-loads : goal.returns-then-is_full-clause-loads
returns-then-is_full-clause-loads g c = λ w x at stands apart keeps there reads chosen_is.
    whole_full g.P.Disk.state g.P.Disk.possible c.args.tier.now c.args.journal.now c.args.site.now c.read_fresh.new.site w c.args.place x c.args.ready.now c.read_fresh.ensures.certain keeps stands there c.requires.ready
    c.in-Ok.fresh.position.0 c.slot_is_full.result (c.in-Ok.ensures.reads w at stands apart).0 (sym c.is_full.ensures ∙ c.if-is_full.true) c.slot_is_full.ensures.told

pub returns-else-is_full-clause-loads : goal.returns-else-is_full-clause-loads
returns-else-is_full-clause-loads g c = λ w x at stands apart keeps there reads chosen_is.
    let read = c.in-Ok.ensures.reads w at stands apart in
    let shown = c.show_fresh.ensures.shown in
    let sound = returns-else-is_full-clause-sound g c in
    whole_read c.args.tier.now _ (g.P.Disk.state c.read_fresh.new.site) w c.args.place c.in-Ok.fresh.position.0 x (choice_of c.args.chosen) c.in-Ok.fresh.made.items there reads chosen_is read.0 read.1
    (record {
      beside = record { schema = shown.schema; stale = shown.stale; sessions = shown.sessions; unsettled = shown.unsettled; writers = shown.writers; next = shown.next; clock = shown.clock };
      groups = c.with_state.ensures ∙ ap (changed_from (alone c.args.place) _ 0) (c.with_loaded.ensures ∙ ap (changed_from (alone c.args.place) _ 0) shown.groups)
          ∙ loaded_once (groups_in c.args.tier.now.catalog) c.args.place c.in-Ok.fresh.position.0 (choice_of c.args.chosen) c.args.state c.requires.explicit c.requires.state;
      stores = shown.stores;
      hidden = shown.hidden;
      was = c.requires.sound.kept;
      kept = sound.kept;
      hid = c.requires.sound.hiding;
      long = c.in-Ok.ensures.formed.long;
    })
    c.done-reply.result (c.done-reply.ensures ∙ ap (λ m. only (Done m)) c.roots_shown.ensures) sound
    g.P.Disk.state g.P.Disk.possible c.args.journal.now c.answer_behind.new.journal c.read_fresh.new.site c.answer_behind.new.site c.args.ready.now refl
    (keeps_read g.P.Disk.state g.P.Disk.possible c.args.tier.now c.args.journal.now c.args.site.now c.read_fresh.new.site w c.args.place x c.args.ready.now c.read_fresh.ensures.certain keeps stands there c.requires.ready _ read.0)
    (ready_read g.P.Disk.state g.P.Disk.possible c.args.tier.now c.args.journal.now c.args.site.now c.read_fresh.new.site w c.args.place x c.args.ready.now c.read_fresh.ensures.certain keeps stands there c.requires.ready _ read.0)
    c.answer_behind.result c.answer_behind.ensures.answers

pub returns-in-Err-clause-cause : goal.returns-in-Err-clause-cause
returns-in-Err-clause-cause g c = fault_cause _ _ _ c.in-Err.error c.bank_fault.result c.in-Err.ensures.called c.bank_fault.ensures

pub returns-then-is_full-clause-cause : goal.returns-then-is_full-clause-cause
returns-then-is_full-clause-cause g c = read_cause _ _ _ _ _ _ c.in-Ok.ensures.called (calm_cause _ _ c.slot_is_full.result c.slot_is_full.ensures.calm)

pub returns-else-is_full-clause-cause : goal.returns-else-is_full-clause-cause
returns-else-is_full-clause-cause g c = read_cause _ _ _ _ _ _ c.in-Ok.ensures.called c.answer_behind.ensures.cause
