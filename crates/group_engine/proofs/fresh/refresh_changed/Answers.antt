use Rattle.std.proofs.Common.{◌∙◌, ℕ, List, Option, None, ap, refl, subst}
use Rattle.cache_tier.specs.Sets.{Choice}
use Rattle.cache_tier.specs.Worlds.{World}
use Rattle.changed_sets.specs.Gains.{AreGainedBy}
use Rattle.stored_tier.specs.declared.refreshing.Made.{Made}
use Rattle.group_engine.specs.Fresh.{AreFresh, AreGained}
use Rattle.group_catalog.specs.Catalogs.{groups_in}
use Rattle.group_engine.proofs.CalledLaws.{set_failed, set_groups, set_refreshed}
use Rattle.cache_tier.specs.Groups.{definitions_of}
use Rattle.stored_tier.specs.Refreshing.{positioned}
use Rattle.stored_tier.specs.declared.tier.Tier.{Tier as Stored}
use Rattle.stored_tier.proofs.SoundParts.{changed_defs}
use Rattle.group_engine.proofs.fresh.refresh_changed.Goals as goal

-- no want names an instance
none_gained : (t : Stored) (w : World) (filled : Choice) (n : ℕ) (made : List (Option Made)) → AreGainedBy t w filled 0 None n made → AreFresh t w filled n made
none_gained t w filled n made x = subst (λ l. AreGained t w filled 0 l n made) x.are x.gained

pub returns-in-Err-clause-refreshes : goal.returns-in-Err-clause-refreshes
returns-in-Err-clause-refreshes g c = λ t notes.
    set_failed t c.args.tier.now c.read_changed.new.tier _ _ c.args.interval c.in-Err.error notes c.in-Err.ensures.reads

pub returns-in-Ok-clause-refreshes : goal.returns-in-Ok-clause-refreshes
returns-in-Ok-clause-refreshes g c = λ t notes.
    let shows = c.show_changed.ensures.shown in
    let shown = shows.exchanged in
    let n = c.in-Ok.changed.position.0 in
    set_refreshed t c.args.tier.now c.read_changed.new.tier c.show_changed.new.tier _ _ c.args.interval n shows.made notes
    (λ w at stands apart. let r = c.in-Ok.ensures.reads w at stands apart in (r.0, none_gained _ _ _ _ _ (r.1 shows.made shows.came)))
    (record {
      beside = record { schema = shown.schema; stale = shown.stale; sessions = shown.sessions; unsettled = shown.unsettled; writers = shown.writers; next = shown.next; clock = shown.clock };
      groups = shown.groups ∙ set_groups c.args.interval n (groups_in c.read_changed.new.tier.catalog);
      stores = shown.stores;
      hidden = shown.hidden;
      was = c.in-Ok.ensures.sound.kept;
      hid = c.in-Ok.ensures.sound.hiding;
      kept = c.show_changed.ensures.sound.kept;
      long = shows.formed.long;
    })

pub returns-in-Err-clause-groups : goal.returns-in-Err-clause-groups
returns-in-Err-clause-groups g c = ap (λ (s : Stored). definitions_of (groups_in s.catalog)) c.in-Err.ensures.same.rest

pub returns-in-Err-clause-clock : goal.returns-in-Err-clause-clock
returns-in-Err-clause-clock g c = ap (λ (s : Stored). s.clock) c.in-Err.ensures.same.rest

pub returns-in-Ok-clause-groups : goal.returns-in-Ok-clause-groups
returns-in-Ok-clause-groups g c =
    ap definitions_of c.show_changed.ensures.shown.exchanged.groups
    ∙ changed_defs _ (positioned c.in-Ok.changed.position.0) 0 (groups_in c.read_changed.new.tier.catalog) (λ x. refl)
    ∙ ap (λ (s : Stored). definitions_of (groups_in s.catalog)) c.in-Ok.ensures.same.rest

pub returns-in-Ok-clause-clock : goal.returns-in-Ok-clause-clock
returns-in-Ok-clause-clock g c =
    c.show_changed.ensures.shown.exchanged.clock ∙ ap (λ (s : Stored). s.clock) c.in-Ok.ensures.same.rest
