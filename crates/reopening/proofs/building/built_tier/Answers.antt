use Rattle.std.proofs.Common.{refl, subst}
use Rattle.group_catalog.specs.Catalogs.{groups_in}
use Rattle.stored_tier.proofs.NamingLaws.{named_as}
use Rattle.reopening.specs.Building.{AreBare}
use Rattle.reopening.proofs.BuildingLaws.{built_bare, sound_built}
use Rattle.reopening.proofs.building.built_tier.Goals as goal

pub returns-clause-sound : goal.returns-clause-sound
returns-clause-sound c =
    sound_built _ (subst (λ defs. AreBare defs (groups_in c.args.catalog) c.in_ok-stores.stores.items) c.as_slice.ensures c.in_ok-stores.ensures)
    c.in_ok-hidden.ensures
    (c.new.ensures.sound c.args.schema)
    (named_as (groups_in c.args.catalog) c.as_slice-2.result.now c.in_ok-stores.stores.items c.as_slice-3.result.now c.args.schema c.in_ok-visible.visible c.in_ok-visible.directory
    c.as_slice-2.ensures.value c.as_slice-3.ensures c.in_ok-visible.ensures)
    c.requires.plain c.requires.named c.new-2.ensures.items c.requires.first c.new-3.ensures refl

pub returns-clause-bare : goal.returns-clause-bare
returns-clause-bare c =
    built_bare c.args.schema (groups_in c.args.catalog) _ (subst (λ defs. AreBare defs (groups_in c.args.catalog) c.in_ok-stores.stores.items) c.as_slice.ensures c.in_ok-stores.ensures) c.in_ok-hidden.ensures
