-- As the groups are kept.
use Rattle.cache_tier.specs.Groups.{Group, defines_name}
use Rattle.group_catalog.proofs.CatalogLaws.{place_seen}
use Rattle.group_catalog.proofs.catalog.Catalog.find.Goals as goal

pub returns : goal.returns
returns c = place_seen (λ (g : Group). defines_name c.args.name.now g.def) c.args.self.now.groups.items c.as_slice.result.now c.place_named.result c.as_slice.ensures.value c.place_named.ensures
