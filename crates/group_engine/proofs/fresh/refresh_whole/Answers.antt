use Rattle.std.proofs.Common.{◌∙◌, ap, refl}
use Rattle.group_catalog.specs.Catalogs.{groups_in}
use Rattle.group_engine.proofs.CalledLaws.{set_failed, set_groups, set_refreshed}
use Rattle.cache_tier.specs.Groups.{definitions_of}
use Rattle.stored_tier.specs.Refreshing.{positioned}
use Rattle.stored_tier.proofs.SoundParts.{changed_defs}
use Rattle.group_engine.proofs.fresh.refresh_whole.Goals as goal

pub returns-in-Err-clause-refreshes : goal.returns-in-Err-clause-refreshes
returns-in-Err-clause-refreshes g c = λ t notes.
    set_failed t c.args.tier.now c.args.tier.now _ _ c.args.interval c.in-Err.error notes c.in-Err.ensures.reads

pub returns-in-Ok-clause-refreshes : goal.returns-in-Ok-clause-refreshes
returns-in-Ok-clause-refreshes g c = λ t notes.
    let shown = c.show_fresh.ensures.shown in
    set_refreshed t c.args.tier.now c.args.tier.now c.show_fresh.new.tier _ _ c.args.interval c.in-Ok.fresh.position.0 c.in-Ok.fresh.made.items notes
    c.in-Ok.ensures.reads
    (record {
      beside = record { schema = shown.schema; stale = shown.stale; sessions = shown.sessions; unsettled = shown.unsettled; writers = shown.writers; next = shown.next; clock = shown.clock };
      groups = shown.groups ∙ set_groups c.args.interval c.in-Ok.fresh.position.0 (groups_in c.args.tier.now.catalog);
      stores = shown.stores;
      hidden = shown.hidden;
      was = c.requires.kept;
      hid = c.requires.hiding;
      kept = c.show_fresh.ensures.sound.kept;
      long = c.in-Ok.ensures.formed.long;
    })

pub returns-in-Ok-clause-groups : goal.returns-in-Ok-clause-groups
returns-in-Ok-clause-groups g c =
    ap definitions_of c.show_fresh.ensures.shown.groups
    ∙ changed_defs _ (positioned c.in-Ok.fresh.position.0) 0 (groups_in c.args.tier.now.catalog) (λ x. refl)

pub returns-in-Ok-clause-clock : goal.returns-in-Ok-clause-clock
returns-in-Ok-clause-clock g c = c.show_fresh.ensures.shown.clock
