use Rattle.std.proofs.Common.{◌≡◌, ◌∙◌, ℕ, true, List, Some, ap, arith, length, refl, slice_get, subst, sym}
use Rattle.statement_uses.specs.Wanting.{want_seen}
use Rattle.cache_tier.specs.Groups.{Group, definitions_of, is_read_only}
use Rattle.cache_tier.specs.Sets.{alone, changed_from, of_set}
use Rattle.cache_tier.specs.Worlds.{only}
use Rattle.cache_tier.specs.declared.reply.Last.TheVariants.{Done}
use Rattle.group_catalog.specs.Catalogs.{groups_in}
use Rattle.stored_tier.specs.declared.tier.Tier.{Tier as Stored}
use Rattle.stored_tier.specs.Performing.{stop_of}
use Rattle.stored_tier.specs.Refreshing.{IsStateAt, positioned}
use Rattle.stored_tier.proofs.QuietLaws.{calm_done}
use Rattle.stored_tier.proofs.SoundParts.{changed_defs, sound_regrouped}
use Rattle.group_engine.specs.Loaded.{IsDynamicAt}
use Rattle.group_engine.proofs.BringBehind.{full_behind}
use Rattle.group_engine.proofs.BringChanged.{changed_done}
use Rattle.group_engine.proofs.BringLaws.{bring_failed}
use Rattle.group_engine.proofs.BringTried.{flushed_stop}
use Rattle.group_engine.proofs.ChangedLists.{changed_long}
use Rattle.group_engine.proofs.DynamicLaws.{stated_once}
use Rattle.group_engine.proofs.GainedForms.{same_read_only}
use Rattle.group_engine.proofs.NotedLaws.{ready_read_so}
use Rattle.group_engine.proofs.ReadyLaws.{calm_cause, fault_cause, read_cause}
use Rattle.group_engine.proofs.bringing.bring_changed.Goals as goal

-- the group at a place is READONLY
abbrev ReadsThere : List Group → ℕ → Type 0
ReadsThere groups place = (g : Group) → slice_get groups place ≡ Some g → is_read_only g ≡ true

pub returns-in-Err-clause-brings : goal.returns-in-Err-clause-brings
returns-in-Err-clause-brings g c = λ h reads interval w at stands apart keeps there.
    bring_failed g.P.Disk.state g.P.Disk.possible c.read_changed.new.tier c.args.journal.now c.args.place h (want_seen c.args.want.now) c.args.site.now c.read_changed.new.site c.in-Err.error c.bank_fault.result c.bank_fault.ensures
    c.in-Err.ensures.certain w keeps (c.in-Err.ensures.reads w at stands apart)

pub returns-in-Err-clause-sessions : goal.returns-in-Err-clause-sessions
returns-in-Err-clause-sessions g c = ap (λ (t : Stored). t.sessions) c.in-Err.ensures.same.rest

pub returns-in-Err-clause-cause : goal.returns-in-Err-clause-cause
returns-in-Err-clause-cause g c = fault_cause _ _ _ c.in-Err.error c.bank_fault.result c.in-Err.ensures.called c.bank_fault.ensures

pub returns-then-is_full-clause-brings : goal.returns-then-is_full-clause-brings
returns-then-is_full-clause-brings g c = λ h reads interval w at stands apart keeps there.
    let mid = c.read_changed.new.tier in
    let r = c.in-Ok.ensures.reads w at stands apart in
    full_behind g.P.Disk.state g.P.Disk.possible mid c.args.journal.now c.args.site.now c.read_changed.new.site c.args.place c.args.interval (want_seen c.args.want.now) h reads interval c.in-Ok.ensures.sound
    (subst (λ (s : Stored). IsDynamicAt (groups_in s.catalog) c.args.place) (sym c.in-Ok.ensures.same.rest) c.requires.dynamic) c.in-Ok.changed.position.0 w r.0 c.in-Ok.ensures.certain keeps there
    c.args.ready.now (ready_read_so c.args.tier.now w r.0.world c.args.journal.now c.args.place h c.args.ready.now stands r.0.tier there c.requires.ready) (sym c.is_full.ensures ∙ c.if-is_full.true) c.slot_is_full.result c.slot_is_full.ensures.told

pub returns-then-is_full-clause-sessions : goal.returns-then-is_full-clause-sessions
returns-then-is_full-clause-sessions g c = ap (λ (t : Stored). t.sessions) c.in-Ok.ensures.same.rest

pub returns-then-is_full-clause-cause : goal.returns-then-is_full-clause-cause
returns-then-is_full-clause-cause g c = read_cause _ _ _ _ _ c.slot_is_full.result c.in-Ok.ensures.called (calm_cause _ _ _ c.slot_is_full.ensures.calm)

pub with_state-requires : goal.with_state-requires
with_state-requires g c =
    let within = c.requires.within in
    let long = ap length c.show_changed.ensures.shown.exchanged.groups ∙ changed_long (of_set c.args.interval (Some c.args.place)) (positioned c.in-Ok.changed.position.0) 0 (groups_in c.read_changed.new.tier.catalog) ∙ ap (λ (t : Stored). length (groups_in t.catalog)) c.in-Ok.ensures.same.rest in
    omega (arith, within, long)

pub returns-else-is_full-clause-sound : goal.returns-else-is_full-clause-sound
returns-else-is_full-clause-sound g c =
    sound_regrouped c.show_changed.new.tier c.with_state.new.self c.show_changed.ensures.sound
    (ap definitions_of c.with_state.ensures ∙ changed_defs (alone c.args.place) _ 0 (groups_in c.show_changed.new.tier.catalog) (λ x. refl))

pub returns-else-is_full-clause-sessions : goal.returns-else-is_full-clause-sessions
returns-else-is_full-clause-sessions g c = c.show_changed.ensures.shown.exchanged.sessions ∙ ap (λ (t : Stored). t.sessions) c.in-Ok.ensures.same.rest

pub returns-else-is_full-clause-brings : goal.returns-else-is_full-clause-brings
returns-else-is_full-clause-brings g c = λ h reads interval w at stands apart keeps there.
    let mid = c.read_changed.new.tier in
    let n = c.in-Ok.changed.position.0 in
    let r = c.in-Ok.ensures.reads w at stands apart in
    let shows = c.show_changed.ensures.shown in
    let shown = shows.exchanged in
    let sound = returns-else-is_full-clause-sound g c in
    let same = sym c.in-Ok.ensures.same.rest in
    let dynamic = subst (λ (s : Stored). IsDynamicAt (groups_in s.catalog) c.args.place) same c.requires.dynamic in
    changed_done g.P.Disk.state g.P.Disk.possible mid c.args.journal.now c.args.site.now c.read_changed.new.site c.args.place c.args.interval (want_seen c.args.want.now) h reads interval c.in-Ok.ensures.sound dynamic n w r.0 c.in-Ok.ensures.certain keeps there
    _ shows.made (r.1 shows.made shows.came)
    (record {
      beside = record { schema = shown.schema; stale = shown.stale; sessions = shown.sessions; unsettled = shown.unsettled; writers = shown.writers; next = shown.next; clock = shown.clock };
      groups = c.with_state.ensures ∙ ap (changed_from (alone c.args.place) _ 0) shown.groups
          ∙ stated_once (groups_in mid.catalog) c.args.place n (of_set c.args.interval (Some c.args.place)) c.args.state dynamic
          (subst (λ (s : Stored). IsStateAt (groups_in s.catalog) c.args.place c.args.state) same c.requires.state)
          (subst (λ (s : Stored). ReadsThere (groups_in s.catalog) c.args.place) same (same_read_only c.args.tier.now w c.args.place h stands there reads));
      stores = shown.stores;
      hidden = shown.hidden;
      was = c.in-Ok.ensures.sound.kept;
      kept = sound.kept;
      hid = c.in-Ok.ensures.sound.hiding;
      long = shows.formed.long;
    })
    c.flush_kept.new.journal c.flush_kept.new.disk c.args.ready.now (ready_read_so c.args.tier.now w r.0.world c.args.journal.now c.args.place h c.args.ready.now stands r.0.tier there c.requires.ready)
    (sym c.is_full.ensures ∙ c.if-is_full.false) (stop_of c.flush_kept.result) c.flush_kept.ensures.flushes c.flush_kept.ensures.cause

pub returns-else-is_full-clause-cause : goal.returns-else-is_full-clause-cause
returns-else-is_full-clause-cause g c =
    flushed_stop _ _ _ _ (stop_of c.flush_kept.result) (calm_done 0 (only (Done 0)) refl) c.flush_kept.ensures.cause
    (λ reply x. read_cause _ _ _ _ _ reply c.in-Ok.ensures.called x)

pub flush_kept-requires-clause-fits : goal.flush_kept-requires-clause-fits
flush_kept-requires-clause-fits g c = sym c.is_full.ensures ∙ c.if-is_full.false
