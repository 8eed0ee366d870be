use Rattle.std.proofs.Common.{◌∙◌, Err, Some, ap, arith, length, refl, subst, sym}
use Rattle.propagators.proofs.CertainLaws.{bank_certain}
use Rattle.statement_uses.specs.Wanting.{want_seen}
use Rattle.cache_tier.specs.Groups.{definitions_of}
use Rattle.cache_tier.specs.Sets.{alone, changed_from, of_set}
use Rattle.cache_tier.specs.Worlds.{only}
use Rattle.cache_tier.specs.declared.reply.Last.TheVariants.{Done}
use Rattle.group_catalog.specs.Catalogs.{groups_in}
use Rattle.stored_tier.specs.Performing.{stop_of}
use Rattle.stored_tier.specs.Refreshing.{exchanged, is_filled, made_hidden, made_stores, positioned}
use Rattle.stored_tier.proofs.QuietLaws.{calm_done}
use Rattle.stored_tier.proofs.SoundParts.{changed_defs, sound_regrouped}
use Rattle.group_engine.specs.Fresh.{AreFormed}
use Rattle.group_engine.proofs.BringLaws.{bring_done, bring_failed, bring_full, bring_uncalled, bring_wanting, r}
use Rattle.group_engine.proofs.BringTried.{flushed_stop, wanting_calm}
use Rattle.group_engine.proofs.ChangedLists.{changed_long}
use Rattle.group_engine.proofs.DynamicLaws.{stated_once}
use Rattle.group_engine.proofs.GainedForms.{formed_gained, performed_same, same_read_only, sound_same}
use Rattle.group_engine.proofs.NotedLaws.{ready_read_so}
use Rattle.group_engine.proofs.ReadLaws.{read_failed}
use Rattle.group_engine.proofs.ReadyLaws.{bank_cause, calm_cause, fault_so}
use Rattle.group_engine.proofs.bringing.bring_snapshot.Goals as goal

pub returns-in-Err-clause-brings : goal.returns-in-Err-clause-brings
returns-in-Err-clause-brings g c = λ h reads interval w at stands apart keeps there.
    bring_uncalled g.P.Disk.state g.P.Disk.possible c.args.tier.now c.args.journal.now c.args.place h (want_seen c.args.want.now) c.args.site.now w at stands keeps c.faulty.result c.faulty.ensures

pub returns-in-Err-clause-cause : goal.returns-in-Err-clause-cause
returns-in-Err-clause-cause g c = calm_cause _ _ c.faulty.result (wanting_calm c.faulty.result c.faulty.ensures)

pub returns-in-Err-snapshot-clause-brings : goal.returns-in-Err-snapshot-clause-brings
returns-in-Err-snapshot-clause-brings g c = λ h reads interval w at stands apart keeps there.
    bring_failed g.P.Disk.state g.P.Disk.possible c.args.tier.now c.args.journal.now c.args.place h (want_seen c.args.want.now) c.args.site.now c.snapshot.new.self c.in-Err-snapshot.error c.bank_fault.result c.bank_fault.ensures
    (bank_certain g.P.Disk.state g.P.Disk.possible g.met.P.Disk.certain c.args.site.now c.snapshot.new.self _ c.in-Err-snapshot.ensures.told c.in-Err-snapshot.ensures.crash) w keeps
    (read_failed c.args.tier.now _ _ c.as_slice.result.now c.in-Err-snapshot.error (Err c.in-Err-snapshot.error) c.in-Err-snapshot.ensures.told c.in-Err-snapshot.ensures.cause.later c.in-Err-snapshot.ensures.crash.later c.in-Err-snapshot.ensures.cause.shared w at stands apart)

pub returns-in-Err-snapshot-clause-cause : goal.returns-in-Err-snapshot-clause-cause
returns-in-Err-snapshot-clause-cause g c = fault_so _ _ _ _ c.in-Err-snapshot.error c.bank_fault.result c.in-Err-snapshot.ensures.told c.in-Err-snapshot.ensures.cause c.in-Err-snapshot.ensures.crash.later c.bank_fault.ensures

pub returns-then-is_full-clause-brings : goal.returns-then-is_full-clause-brings
returns-then-is_full-clause-brings g c = λ h reads interval w at stands apart keeps there.
    let certain = bank_certain g.P.Disk.state g.P.Disk.possible g.met.P.Disk.certain c.args.site.now c.snapshot.new.self _ c.in-Ok-snapshot.ensures.told c.in-Ok-snapshot.ensures.crash in
    let read = r g.P.Disk.state g.P.Disk.possible c.args.tier.now c.args.journal.now c.args.site.now c.snapshot.new.self c.args.place c.args.interval (want_seen c.args.want.now) h reads interval c.requires.sound c.requires.dynamic
    c.as_slice.result.now (c.as_slice.ensures.value ∙ c.in-Ok.ensures) c.in-Ok-snapshot.snapshot c.in-Ok-snapshot.ensures.told c.in-Ok-snapshot.ensures.cause.later c.in-Ok-snapshot.ensures.crash.later c.in-Ok-snapshot.ensures.cause.shared certain w at stands apart keeps there in
    bring_full g.P.Disk.state g.P.Disk.possible c.args.tier.now c.args.journal.now c.args.site.now c.snapshot.new.self c.args.place c.args.interval (want_seen c.args.want.now) h reads interval c.requires.sound c.requires.dynamic
    c.as_slice.result.now (c.as_slice.ensures.value ∙ c.in-Ok.ensures) c.in-Ok-snapshot.snapshot c.in-Ok-snapshot.ensures.told c.in-Ok-snapshot.ensures.cause.later c.in-Ok-snapshot.ensures.crash.later c.in-Ok-snapshot.ensures.cause.shared certain w at stands apart keeps there
    c.args.ready.now (ready_read_so c.args.tier.now w read.world c.args.journal.now c.args.place h c.args.ready.now stands read.tier there c.requires.ready) (sym c.is_full.ensures ∙ c.if-is_full.true) c.slot_is_full.result c.slot_is_full.ensures.told

pub returns-then-is_full-clause-cause : goal.returns-then-is_full-clause-cause
returns-then-is_full-clause-cause g c = bank_cause _ _ _ _ _ _ c.slot_is_full.result c.in-Ok-snapshot.ensures.told c.in-Ok-snapshot.ensures.cause c.in-Ok-snapshot.ensures.crash.later (calm_cause _ _ _ c.slot_is_full.ensures.calm)

pub returns-in-Err-bring_at-clause-brings : goal.returns-in-Err-bring_at-clause-brings
returns-in-Err-bring_at-clause-brings g c = λ h reads interval w at stands apart keeps there.
    performed_same g.P.Disk.state g.P.Disk.possible c.args.tier.now c.bring_at.new.tier c.args.journal.now c.snapshot.new.self _ _ c.bring_at.ensures.same
    (bring_wanting g.P.Disk.state g.P.Disk.possible c.args.tier.now c.args.journal.now c.args.site.now c.snapshot.new.self c.args.place c.args.interval (want_seen c.args.want.now) h reads interval c.requires.sound c.requires.dynamic
    c.as_slice.result.now (c.as_slice.ensures.value ∙ c.in-Ok.ensures) c.in-Ok-snapshot.snapshot c.in-Ok-snapshot.ensures.told c.in-Ok-snapshot.ensures.cause.later c.in-Ok-snapshot.ensures.crash.later c.in-Ok-snapshot.ensures.cause.shared
    (bank_certain g.P.Disk.state g.P.Disk.possible g.met.P.Disk.certain c.args.site.now c.snapshot.new.self _ c.in-Ok-snapshot.ensures.told c.in-Ok-snapshot.ensures.crash) w at stands apart keeps there c.faulty-in-Err-bring_at.result c.faulty-in-Err-bring_at.ensures)

pub returns-in-Err-bring_at-clause-sound : goal.returns-in-Err-bring_at-clause-sound
returns-in-Err-bring_at-clause-sound g c = sound_same c.args.tier.now c.bring_at.new.tier c.bring_at.ensures.same c.requires.sound

pub returns-in-Err-bring_at-clause-sessions : goal.returns-in-Err-bring_at-clause-sessions
returns-in-Err-bring_at-clause-sessions g c = ap (λ t. t.sessions) c.bring_at.ensures.same.elsewhere

pub returns-in-Err-bring_at-clause-cause : goal.returns-in-Err-bring_at-clause-cause
returns-in-Err-bring_at-clause-cause g c =
    bank_cause _ _ _ _ _ _ c.faulty-in-Err-bring_at.result c.in-Ok-snapshot.ensures.told c.in-Ok-snapshot.ensures.cause c.in-Ok-snapshot.ensures.crash.later (calm_cause _ _ _ (wanting_calm c.faulty-in-Err-bring_at.result c.faulty-in-Err-bring_at.ensures))

pub show_fresh-requires-clause-sound : goal.show_fresh-requires-clause-sound
show_fresh-requires-clause-sound g c = sound_same c.args.tier.now c.bring_at.new.tier c.bring_at.ensures.same c.requires.sound

pub show_fresh-requires-clause-formed : goal.show_fresh-requires-clause-formed
show_fresh-requires-clause-formed g c =
    subst (λ t. AreFormed t.schema (groups_in t.catalog) c.in-Ok-bring_at.made.items) (sym c.bring_at.ensures.same.elsewhere)
    (formed_gained (is_filled (of_set c.args.interval (Some c.args.place)) (Some c.args.place)) c.args.tier.now c.args.place _ _ _ c.requires.sound c.in-Ok-bring_at.ensures.brought.made)

pub with_state-requires : goal.with_state-requires
with_state-requires g c =
    let within = c.requires.within in
    let long = ap length c.show_fresh.ensures.shown.groups ∙ changed_long (of_set c.args.interval (Some c.args.place)) (positioned c.in-Ok-snapshot.snapshot.position.0) 0 (groups_in c.bring_at.new.tier.catalog) ∙ ap (λ t. length (groups_in t.catalog)) c.bring_at.ensures.same.elsewhere in
    omega (arith, within, long)

pub returns-clause-sound : goal.returns-clause-sound
returns-clause-sound g c =
    sound_regrouped c.show_fresh.new.tier c.with_state.new.self c.show_fresh.ensures.sound
    (ap definitions_of c.with_state.ensures ∙ changed_defs (alone c.args.place) _ 0 (groups_in c.show_fresh.new.tier.catalog) (λ x. refl))

pub returns-clause-sessions : goal.returns-clause-sessions
returns-clause-sessions g c = c.show_fresh.ensures.shown.sessions ∙ ap (λ t. t.sessions) c.bring_at.ensures.same.elsewhere

pub returns-clause-brings : goal.returns-clause-brings
returns-clause-brings g c = λ h reads interval w at stands apart keeps there.
    let certain = bank_certain g.P.Disk.state g.P.Disk.possible g.met.P.Disk.certain c.args.site.now c.snapshot.new.self _ c.in-Ok-snapshot.ensures.told c.in-Ok-snapshot.ensures.crash in
    let read = r g.P.Disk.state g.P.Disk.possible c.args.tier.now c.args.journal.now c.args.site.now c.snapshot.new.self c.args.place c.args.interval (want_seen c.args.want.now) h reads interval c.requires.sound c.requires.dynamic
    c.as_slice.result.now (c.as_slice.ensures.value ∙ c.in-Ok.ensures) c.in-Ok-snapshot.snapshot c.in-Ok-snapshot.ensures.told c.in-Ok-snapshot.ensures.cause.later c.in-Ok-snapshot.ensures.crash.later c.in-Ok-snapshot.ensures.cause.shared certain w at stands apart keeps there in
    let shown = c.show_fresh.ensures.shown in
    let same = c.bring_at.ensures.same.elsewhere in
    let hidden = c.bring_at.ensures.same.hidden in
    let sound = returns-clause-sound g c in
    bring_done g.P.Disk.state g.P.Disk.possible c.args.tier.now c.args.journal.now c.args.site.now c.snapshot.new.self c.args.place c.args.interval (want_seen c.args.want.now) h reads interval c.requires.sound c.requires.dynamic
    c.as_slice.result.now (c.as_slice.ensures.value ∙ c.in-Ok.ensures) c.in-Ok-snapshot.snapshot c.in-Ok-snapshot.ensures.told c.in-Ok-snapshot.ensures.cause.later c.in-Ok-snapshot.ensures.crash.later c.in-Ok-snapshot.ensures.cause.shared certain w at stands apart keeps there
    _ c.in-Ok-bring_at.made.items c.in-Ok-bring_at.ensures.brought
    (record {
      beside = record { schema = shown.schema ∙ ap (λ t. t.schema) same; stale = shown.stale ∙ ap (λ t. t.stale) same; sessions = shown.sessions ∙ ap (λ t. t.sessions) same; unsettled = shown.unsettled ∙ ap (λ t. t.unsettled) same; writers = shown.writers ∙ ap (λ t. t.writers) same; next = shown.next ∙ ap (λ t. t.next) same; clock = shown.clock ∙ ap (λ t. t.clock) same };
      groups = c.with_state.ensures ∙ ap (changed_from (alone c.args.place) _ 0) (shown.groups ∙ ap (λ t. changed_from (of_set c.args.interval (Some c.args.place)) (positioned c.in-Ok-snapshot.snapshot.position.0) 0 (groups_in t.catalog)) same)
          ∙ stated_once (groups_in c.args.tier.now.catalog) c.args.place c.in-Ok-snapshot.snapshot.position.0 (of_set c.args.interval (Some c.args.place)) c.args.state c.requires.dynamic c.requires.state (same_read_only c.args.tier.now w c.args.place h stands there reads);
      stores = shown.stores ∙ (λ i. exchanged (same i).stores.items (made_stores c.in-Ok-bring_at.made.items));
      hidden = shown.hidden ∙ (λ i. exchanged (hidden i) (made_hidden c.in-Ok-bring_at.made.items));
      was = c.requires.sound.kept;
      kept = sound.kept;
      hid = c.requires.sound.hiding;
      long = c.in-Ok-bring_at.ensures.brought.made.long;
    })
    c.flush_kept.new.journal c.flush_kept.new.disk c.args.ready.now (ready_read_so c.args.tier.now w read.world c.args.journal.now c.args.place h c.args.ready.now stands read.tier there c.requires.ready)
    (sym c.is_full.ensures ∙ c.if-is_full.false) (stop_of c.flush_kept.result) c.flush_kept.ensures.flushes c.flush_kept.ensures.cause

pub returns-clause-cause : goal.returns-clause-cause
returns-clause-cause g c =
    flushed_stop _ _ _ _ (stop_of c.flush_kept.result) (calm_done 0 (only (Done 0)) refl) c.flush_kept.ensures.cause
    (λ reply x. bank_cause _ _ _ _ _ _ reply c.in-Ok-snapshot.ensures.told c.in-Ok-snapshot.ensures.cause c.in-Ok-snapshot.ensures.crash.later x)

pub flush_kept-requires-clause-fits : goal.flush_kept-requires-clause-fits
flush_kept-requires-clause-fits g c = sym c.is_full.ensures ∙ c.if-is_full.false
