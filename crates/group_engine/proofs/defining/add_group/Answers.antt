use Rattle.std.proofs.Common.{◌++◌, ◌∷◌, [], ◌∙◌, ap, refl, subst}
use Rattle.group_catalog.specs.Catalogs.{groups_in}
use Rattle.stored_tier.specs.Filling.{HidesNone}
use Rattle.stored_tier.specs.Grouping.{IsBareStore}
use Rattle.stored_tier.specs.Stored.{named_where_cached}
use Rattle.group_engine.proofs.defining.add_group.Goals as goal

pub returns-clause-ok : goal.returns-clause-ok
returns-clause-ok c =
    let has = c.in_ok-keep_group.ensures.ok in
    let is = c.new-group.ensures in
    record {
      store = c.in_ok-store.store;
      hidden = c.in_ok-hidden.hidden;
      bare = subst (λ defs. IsBareStore defs c.args.def.tree c.in_ok-store.store) c.as_slice.ensures c.in_ok-store.ensures;
      none = subst (λ g. HidesNone c.args.tier.now.schema g 0 c.in_ok-hidden.hidden) is c.in_ok-hidden.ensures;
      has = record {
        beside = record { schema = has.beside.schema; stale = has.beside.stale; sessions = has.beside.sessions; unsettled = has.beside.unsettled; writers = has.beside.writers; next = has.beside.next; clock = has.beside.clock };
        groups = has.groups ∙ ap (λ g. groups_in c.args.tier.now.catalog ++ g ∷ []) is;
        stores = has.stores;
        hidden = has.hidden;
        visible = has.visible ∙ ap (λ g. named_where_cached (groups_in c.args.tier.now.catalog ++ g ∷ []) c.args.tier.now.schema) is;
        directory = has.directory;
      };
      unverified = refl;
    }
