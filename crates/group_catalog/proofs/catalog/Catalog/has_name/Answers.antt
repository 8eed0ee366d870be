-- As the groups are kept.
use Rattle.cache_tier.specs.Groups.{defines_name}
use Rattle.group_catalog.proofs.CatalogLaws.{any_defined}
use Rattle.group_catalog.proofs.catalog.Catalog.has_name.Goals as goal

pub returns : goal.returns
returns c = any_defined (defines_name c.args.name.now) c.args.self.now.groups.items c.as_slice.result.now c.some_named.result c.as_slice.ensures.value c.some_named.ensures
