use Rattle.std.proofs.Common.{◌∙◌, Err, Some, ap, arith, length, refl, subst, sym}
use Rattle.propagators.proofs.CertainLaws.{bank_certain}
use Rattle.row_types.specs.declared.rule.Refused.TheVariants as refused
use Rattle.cache_tier.specs.Groups.{definitions_of}
use Rattle.cache_tier.specs.Sets.{alone, changed_from}
use Rattle.group_catalog.specs.Catalogs.{groups_in}
use Rattle.stored_tier.specs.Performing.{reply_of}
use Rattle.stored_tier.specs.Refreshing.{choice_of, is_filled, positioned}
use Rattle.stored_tier.proofs.QuietLaws.{calm_refused}
use Rattle.stored_tier.proofs.SoundParts.{changed_defs, sound_regrouped}
use Rattle.group_engine.specs.Fresh.{AreFormed}
use Rattle.group_engine.proofs.ChangedLists.{changed_long}
use Rattle.group_engine.proofs.DynamicLaws.{dynamic_done, dynamic_failed, dynamic_full, dynamic_over, dynamic_uncalled, dynamic_wanting, r, stated_once}
use Rattle.group_engine.proofs.GainedForms.{formed_gained, performed_same, same_read_only, sound_same}
use Rattle.group_engine.proofs.NotedLaws.{ready_read_so}
use Rattle.group_engine.proofs.ReadLaws.{read_failed}
use Rattle.group_engine.proofs.ReadyLaws.{bank_cause, calm_cause, fault_so}
use Rattle.group_engine.proofs.loading_dynamic.load_dynamic.Goals as goal

pub returns-in-Err-clause-reads : goal.returns-in-Err-clause-reads
returns-in-Err-clause-reads g c = λ x of reads chosen_is w at stands apart keeps there.
    dynamic_uncalled g.P.Disk.state g.P.Disk.possible c.args.tier.now c.args.journal.now c.args.site.now c.args.refreshes x w at stands keeps

pub returns-in-Err-clause-cause : goal.returns-in-Err-clause-cause
returns-in-Err-clause-cause g c = calm_cause _ _ _ (calm_refused refused.Memory)

pub returns-in-Err-snapshot-clause-reads : goal.returns-in-Err-snapshot-clause-reads
returns-in-Err-snapshot-clause-reads g c = λ x of reads chosen_is w at stands apart keeps there.
    dynamic_failed g.P.Disk.state g.P.Disk.possible c.args.tier.now c.args.journal.now c.args.site.now c.snapshot.new.self c.args.refreshes x c.in-Err-snapshot.error c.bank_fault.result c.bank_fault.ensures
    (bank_certain g.P.Disk.state g.P.Disk.possible g.met.P.Disk.certain c.args.site.now c.snapshot.new.self _ c.in-Err-snapshot.ensures.told c.in-Err-snapshot.ensures.crash) w keeps
    (read_failed c.args.tier.now _ _ c.as_slice.result.now c.in-Err-snapshot.error (Err c.in-Err-snapshot.error) c.in-Err-snapshot.ensures.told c.in-Err-snapshot.ensures.cause.later c.in-Err-snapshot.ensures.crash.later c.in-Err-snapshot.ensures.cause.shared w at stands apart)

pub returns-in-Err-snapshot-clause-cause : goal.returns-in-Err-snapshot-clause-cause
returns-in-Err-snapshot-clause-cause g c = fault_so _ _ _ _ c.in-Err-snapshot.error c.bank_fault.result c.in-Err-snapshot.ensures.told c.in-Err-snapshot.ensures.cause c.in-Err-snapshot.ensures.crash.later c.bank_fault.ensures

pub returns-then-overflows_at-clause-reads : goal.returns-then-overflows_at-clause-reads
returns-then-overflows_at-clause-reads g c = λ x of reads chosen_is w at stands apart keeps there.
    dynamic_over g.P.Disk.state g.P.Disk.possible c.args.tier.now c.args.journal.now c.args.site.now c.snapshot.new.self c.args.aim.now.place c.args.aim.now.which c.args.refreshes x of reads (choice_of c.args.chosen) chosen_is c.requires.sound c.requires.dynamic
    c.as_slice.result.now (c.as_slice.ensures.value ∙ c.in-Ok.ensures) c.in-Ok-snapshot.snapshot c.in-Ok-snapshot.ensures.told c.in-Ok-snapshot.ensures.cause.later c.in-Ok-snapshot.ensures.crash.later c.in-Ok-snapshot.ensures.cause.shared
    (bank_certain g.P.Disk.state g.P.Disk.possible g.met.P.Disk.certain c.args.site.now c.snapshot.new.self _ c.in-Ok-snapshot.ensures.told c.in-Ok-snapshot.ensures.crash) w at stands apart keeps there
    (subst (Rattle.group_engine.specs.Gaining.TellsOverflow c.args.tier.now c.args.aim.now.place c.args.aim.now.which c.args.refreshes c.in-Ok-snapshot.snapshot.tables) c.if-overflows_at.true c.overflows_at.ensures)
    c.overflow.result c.overflow.ensures

pub returns-then-overflows_at-clause-cause : goal.returns-then-overflows_at-clause-cause
returns-then-overflows_at-clause-cause g c = bank_cause _ _ _ _ _ _ (reply_of (Err (refused.Rule c.overflow.result))) c.in-Ok-snapshot.ensures.told c.in-Ok-snapshot.ensures.cause c.in-Ok-snapshot.ensures.crash.later (calm_cause _ _ _ (calm_refused (refused.Rule c.overflow.result)))

pub returns-then-is_full-clause-reads : goal.returns-then-is_full-clause-reads
returns-then-is_full-clause-reads g c = λ x of reads chosen_is w at stands apart keeps there.
    let certain = bank_certain g.P.Disk.state g.P.Disk.possible g.met.P.Disk.certain c.args.site.now c.snapshot.new.self _ c.in-Ok-snapshot.ensures.told c.in-Ok-snapshot.ensures.crash in
    let read = r g.P.Disk.state g.P.Disk.possible c.args.tier.now c.args.journal.now c.args.site.now c.snapshot.new.self c.args.aim.now.place c.args.aim.now.which c.args.refreshes x of reads (choice_of c.args.chosen) chosen_is c.requires.sound c.requires.dynamic
    c.as_slice.result.now (c.as_slice.ensures.value ∙ c.in-Ok.ensures) c.in-Ok-snapshot.snapshot c.in-Ok-snapshot.ensures.told c.in-Ok-snapshot.ensures.cause.later c.in-Ok-snapshot.ensures.crash.later c.in-Ok-snapshot.ensures.cause.shared certain w at stands apart keeps there in
    dynamic_full g.P.Disk.state g.P.Disk.possible c.args.tier.now c.args.journal.now c.args.site.now c.snapshot.new.self c.args.aim.now.place c.args.aim.now.which c.args.refreshes x of reads (choice_of c.args.chosen) chosen_is c.requires.sound c.requires.dynamic
    c.as_slice.result.now (c.as_slice.ensures.value ∙ c.in-Ok.ensures) c.in-Ok-snapshot.snapshot c.in-Ok-snapshot.ensures.told c.in-Ok-snapshot.ensures.cause.later c.in-Ok-snapshot.ensures.crash.later c.in-Ok-snapshot.ensures.cause.shared certain w at stands apart keeps there
    (subst (Rattle.group_engine.specs.Gaining.TellsOverflow c.args.tier.now c.args.aim.now.place c.args.aim.now.which c.args.refreshes c.in-Ok-snapshot.snapshot.tables) c.if-overflows_at.false c.overflows_at.ensures)
    c.args.ready.now (ready_read_so c.args.tier.now w read.world c.args.journal.now c.args.aim.now.place x.group c.args.ready.now stands read.tier there c.requires.ready) (sym c.is_full.ensures ∙ c.if-is_full.true) c.slot_is_full.result c.slot_is_full.ensures.told

pub returns-then-is_full-clause-cause : goal.returns-then-is_full-clause-cause
returns-then-is_full-clause-cause g c = bank_cause _ _ _ _ _ _ c.slot_is_full.result c.in-Ok-snapshot.ensures.told c.in-Ok-snapshot.ensures.cause c.in-Ok-snapshot.ensures.crash.later (calm_cause _ _ _ c.slot_is_full.ensures.calm)

pub returns-in-Err-gain_at-clause-reads : goal.returns-in-Err-gain_at-clause-reads
returns-in-Err-gain_at-clause-reads g c = λ x of reads chosen_is w at stands apart keeps there.
    performed_same g.P.Disk.state g.P.Disk.possible c.args.tier.now c.gain_at.new.tier c.args.journal.now c.snapshot.new.self _ _ c.gain_at.ensures.same
    (dynamic_wanting g.P.Disk.state g.P.Disk.possible c.args.tier.now c.args.journal.now c.args.site.now c.snapshot.new.self c.args.aim.now.place c.args.aim.now.which c.args.refreshes x of reads (choice_of c.args.chosen) chosen_is c.requires.sound c.requires.dynamic
    c.as_slice.result.now (c.as_slice.ensures.value ∙ c.in-Ok.ensures) c.in-Ok-snapshot.snapshot c.in-Ok-snapshot.ensures.told c.in-Ok-snapshot.ensures.cause.later c.in-Ok-snapshot.ensures.crash.later c.in-Ok-snapshot.ensures.cause.shared
    (bank_certain g.P.Disk.state g.P.Disk.possible g.met.P.Disk.certain c.args.site.now c.snapshot.new.self _ c.in-Ok-snapshot.ensures.told c.in-Ok-snapshot.ensures.crash) w at stands apart keeps there)

pub returns-in-Err-gain_at-clause-sound : goal.returns-in-Err-gain_at-clause-sound
returns-in-Err-gain_at-clause-sound g c = sound_same c.args.tier.now c.gain_at.new.tier c.gain_at.ensures.same c.requires.sound

pub returns-in-Err-gain_at-clause-cause : goal.returns-in-Err-gain_at-clause-cause
returns-in-Err-gain_at-clause-cause g c = bank_cause _ _ _ _ _ _ (reply_of (Err refused.Memory)) c.in-Ok-snapshot.ensures.told c.in-Ok-snapshot.ensures.cause c.in-Ok-snapshot.ensures.crash.later (calm_cause _ _ _ (calm_refused refused.Memory))

pub show_fresh-requires-clause-sound : goal.show_fresh-requires-clause-sound
show_fresh-requires-clause-sound g c = sound_same c.args.tier.now c.gain_at.new.tier c.gain_at.ensures.same c.requires.sound

pub show_fresh-requires-clause-formed : goal.show_fresh-requires-clause-formed
show_fresh-requires-clause-formed g c =
    subst (λ t. AreFormed t.schema (groups_in t.catalog) c.into_made.result.items) (sym c.gain_at.ensures.same.elsewhere)
    (subst (λ m. AreFormed c.args.tier.now.schema (groups_in c.args.tier.now.catalog) m.items) (sym c.into_made.ensures)
    (formed_gained (is_filled (choice_of c.args.chosen) (Some c.args.aim.now.place)) c.args.tier.now c.args.aim.now.place _ _ _ c.requires.sound c.in-Ok-gain_at.ensures.gained.made))

pub with_state-requires : goal.with_state-requires
with_state-requires g c =
    let within = c.requires.within in
    let long = ap length c.show_fresh.ensures.shown.groups ∙ changed_long (choice_of c.args.chosen) (positioned c.in-Ok-snapshot.snapshot.position.0) 0 (groups_in c.gain_at.new.tier.catalog) ∙ ap (λ t. length (groups_in t.catalog)) c.gain_at.ensures.same.elsewhere in
    omega (arith, within, long)

pub returns-clause-sound : goal.returns-clause-sound
returns-clause-sound g c =
    sound_regrouped c.show_fresh.new.tier c.with_state.new.self c.show_fresh.ensures.sound
    (ap definitions_of c.with_state.ensures ∙ changed_defs (alone c.args.aim.now.place) _ 0 (groups_in c.show_fresh.new.tier.catalog) (λ x. refl))

pub returns-clause-reads : goal.returns-clause-reads
returns-clause-reads g c = λ x of reads chosen_is w at stands apart keeps there.
    let certain = bank_certain g.P.Disk.state g.P.Disk.possible g.met.P.Disk.certain c.args.site.now c.snapshot.new.self _ c.in-Ok-snapshot.ensures.told c.in-Ok-snapshot.ensures.crash in
    let read = r g.P.Disk.state g.P.Disk.possible c.args.tier.now c.args.journal.now c.args.site.now c.snapshot.new.self c.args.aim.now.place c.args.aim.now.which c.args.refreshes x of reads (choice_of c.args.chosen) chosen_is c.requires.sound c.requires.dynamic
    c.as_slice.result.now (c.as_slice.ensures.value ∙ c.in-Ok.ensures) c.in-Ok-snapshot.snapshot c.in-Ok-snapshot.ensures.told c.in-Ok-snapshot.ensures.cause.later c.in-Ok-snapshot.ensures.crash.later c.in-Ok-snapshot.ensures.cause.shared certain w at stands apart keeps there in
    let shown = c.show_fresh.ensures.shown in
    let same = c.gain_at.ensures.same.elsewhere in
    let hidden = c.gain_at.ensures.same.hidden in
    let made = c.into_made.ensures in
    let sound = returns-clause-sound g c in
    dynamic_done g.P.Disk.state g.P.Disk.possible c.args.tier.now c.args.journal.now c.args.site.now c.snapshot.new.self c.args.aim.now.place c.args.aim.now.which c.args.refreshes x of reads (choice_of c.args.chosen) chosen_is c.requires.sound c.requires.dynamic
    c.as_slice.result.now (c.as_slice.ensures.value ∙ c.in-Ok.ensures) c.in-Ok-snapshot.snapshot c.in-Ok-snapshot.ensures.told c.in-Ok-snapshot.ensures.cause.later c.in-Ok-snapshot.ensures.crash.later c.in-Ok-snapshot.ensures.cause.shared certain w at stands apart keeps there
    (subst (Rattle.group_engine.specs.Gaining.TellsOverflow c.args.tier.now c.args.aim.now.place c.args.aim.now.which c.args.refreshes c.in-Ok-snapshot.snapshot.tables) c.if-overflows_at.false c.overflows_at.ensures)
    _ c.in-Ok-gain_at.gained c.in-Ok-gain_at.ensures.gained
    (record {
      beside = record { schema = shown.schema ∙ ap (λ t. t.schema) same; stale = shown.stale ∙ ap (λ t. t.stale) same; sessions = shown.sessions ∙ ap (λ t. t.sessions) same; unsettled = shown.unsettled ∙ ap (λ t. t.unsettled) same; writers = shown.writers ∙ ap (λ t. t.writers) same; next = shown.next ∙ ap (λ t. t.next) same; clock = shown.clock ∙ ap (λ t. t.clock) same };
      groups = c.with_state.ensures ∙ ap (changed_from (alone c.args.aim.now.place) _ 0) (shown.groups ∙ ap (λ t. changed_from (choice_of c.args.chosen) (positioned c.in-Ok-snapshot.snapshot.position.0) 0 (groups_in t.catalog)) same)
          ∙ stated_once (groups_in c.args.tier.now.catalog) c.args.aim.now.place c.in-Ok-snapshot.snapshot.position.0 (choice_of c.args.chosen) c.args.state c.requires.dynamic c.requires.state (same_read_only c.args.tier.now w c.args.aim.now.place x.group stands there reads);
      stores = shown.stores ∙ (λ i. Rattle.stored_tier.specs.Refreshing.exchanged (same i).stores.items (Rattle.stored_tier.specs.Refreshing.made_stores (made i).items));
      hidden = shown.hidden ∙ (λ i. Rattle.stored_tier.specs.Refreshing.exchanged (hidden i) (Rattle.stored_tier.specs.Refreshing.made_hidden (made i).items));
      was = c.requires.sound.kept;
      kept = sound.kept;
      hid = c.requires.sound.hiding;
      long = c.in-Ok-gain_at.ensures.gained.made.long;
    })
    c.answer_behind.new.journal c.answer_behind.new.site c.args.ready.now (ready_read_so c.args.tier.now w read.world c.args.journal.now c.args.aim.now.place x.group c.args.ready.now stands read.tier there c.requires.ready)
    c.done-reply.result c.answer_behind.result c.done-reply.ensures c.answer_behind.ensures.answers

pub returns-clause-cause : goal.returns-clause-cause
returns-clause-cause g c = bank_cause _ _ _ _ _ _ c.answer_behind.result c.in-Ok-snapshot.ensures.told c.in-Ok-snapshot.ensures.cause c.in-Ok-snapshot.ensures.crash.later c.answer_behind.ensures.cause

pub answer_behind-requires-clause-fits : goal.answer_behind-requires-clause-fits
answer_behind-requires-clause-fits g c = sym c.is_full.ensures ∙ c.if-is_full.false
