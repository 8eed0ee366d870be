use Rattle.std.proofs.Common.{◌∙◌, ap, length, sym}
use Rattle.group_catalog.specs.Catalogs.{groups_in}
use Rattle.stored_tier.specs.Refreshing.{positioned}
use Rattle.group_engine.proofs.ChangedLists.{changed_long}
use Rattle.recovery.specs.Reopening.{is_viewed_again}
use Rattle.reopening.proofs.ViewingLaws.{view_groups, viewed_all, viewed_failed}
use Rattle.reopening.proofs.reloading.show_again.Goals as goal

pub returns-in-Err-clause-performs : goal.returns-in-Err-clause-performs
returns-in-Err-clause-performs g c = viewed_failed c.args.tier.now _ _ c.in-Err.error (sym c.requires.some) c.in-Err.ensures.reads

pub returns-in-Ok-clause-performs : goal.returns-in-Ok-clause-performs
returns-in-Ok-clause-performs g c =
    let shown = c.show_fresh.ensures.shown in
    viewed_all c.args.tier.now c.show_fresh.new.tier _ _ c.in-Ok.fresh c.requires.sound c.requires.bare (sym c.requires.some) c.in-Ok.ensures.reads
    (record {
      beside = record { schema = shown.schema; stale = shown.stale; sessions = shown.sessions; unsettled = shown.unsettled; writers = shown.writers; next = shown.next; clock = shown.clock };
      groups = shown.groups ∙ view_groups c.in-Ok.fresh.position.0 (groups_in c.args.tier.now.catalog);
      stores = shown.stores;
      hidden = shown.hidden;
      was = c.requires.sound.kept;
      hid = c.requires.sound.hiding;
      kept = c.show_fresh.ensures.sound.kept;
      long = c.in-Ok.ensures.formed.long;
    })

pub returns-in-Ok-clause-quiet : goal.returns-in-Ok-clause-quiet
returns-in-Ok-clause-quiet g c =
    let shown = c.show_fresh.ensures.shown in
    record {
      unsettled = ap (λ u. u.items) shown.unsettled ∙ c.requires.settled;
      groups = ap length shown.groups ∙ changed_long is_viewed_again (positioned c.in-Ok.fresh.position.0) 0 (groups_in c.args.tier.now.catalog);
    }
