use Rattle.std.proofs.Common.{refl}
use Rattle.group_catalog.specs.Catalogs.{groups_in}
use Rattle.cache_engine.proofs.BeginningLaws.{sound_fresh}
use Rattle.stored_tier.proofs.NamingLaws.{named_as}
use Rattle.cache_engine.proofs.beginning.new_tier.Goals as goal

pub returns-clause-sound : goal.returns-clause-sound
returns-clause-sound c =
    sound_fresh _ c.args.schema c.args.start.0 c.args.pace
    (record {
      schema_is = refl;
      told = refl;
      groups = c.new-catalog.ensures;
      stores = c.new-stores.ensures.items;
      hidden = c.new.ensures.items;
      sessions = c.new-2.ensures.seen;
      unsettled = c.new-3.ensures.items;
      writers = c.new-4.ensures;
      next = refl;
      clock = c.new_clock.ensures;
      judged = refl;
    })
    (c.new-2.ensures.sound c.args.schema)
    (named_as (groups_in c.new-catalog.result) c.as_slice.result.now c.new-stores.result.items c.as_slice-2.result.now
    c.args.schema c.in_ok-visible.visible c.in_ok-visible.directory c.as_slice.ensures.value c.as_slice-2.ensures
    c.in_ok-visible.ensures)
