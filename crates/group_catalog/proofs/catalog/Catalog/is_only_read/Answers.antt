-- As the groups are kept.
use Rattle.std.proofs.Common.{◌&&◌}
use Rattle.cache_tier.specs.Groups.{Group, covers, is_read_only}
use Rattle.group_catalog.proofs.CatalogLaws.{any_seen}
use Rattle.group_catalog.proofs.catalog.Catalog.is_only_read.Goals as goal

pub returns : goal.returns
returns c = any_seen (λ (g : Group). is_read_only g && covers c.args.table g) c.args.self.now.groups.items c.as_slice.result.now c.some_only_read.result c.as_slice.ensures.value c.some_only_read.ensures
