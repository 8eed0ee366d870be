-- As the groups are kept.
use Rattle.cache_tier.specs.Groups.{Group, is_defined_on}
use Rattle.group_catalog.proofs.CatalogLaws.{place_seen}
use Rattle.group_catalog.proofs.catalog.Catalog.over.Goals as goal

pub returns : goal.returns
returns c = place_seen (λ (g : Group). is_defined_on c.args.table g.def) c.args.self.now.groups.items c.as_slice.result.now c.place_covering.result c.as_slice.ensures.value c.place_covering.ensures
