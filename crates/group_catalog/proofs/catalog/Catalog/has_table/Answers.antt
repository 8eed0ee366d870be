-- As the groups are kept.
use Rattle.cache_tier.specs.Groups.{is_defined_on}
use Rattle.group_catalog.proofs.CatalogLaws.{any_defined}
use Rattle.group_catalog.proofs.catalog.Catalog.has_table.Goals as goal

pub returns : goal.returns
returns c = any_defined (is_defined_on c.args.table) c.args.self.now.groups.items c.as_slice.result.now c.some_covering.result c.as_slice.ensures.value c.some_covering.ensures
