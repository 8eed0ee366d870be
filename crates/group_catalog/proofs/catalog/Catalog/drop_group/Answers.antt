-- As the groups are kept.
use Rattle.std.proofs.Common.{◌∙◌, ap}
use Rattle.group_catalog.specs.Kept.{groups_seen}
use Rattle.group_catalog.proofs.CatalogLaws.{seen_without}
use Rattle.group_catalog.proofs.catalog.Catalog.drop_group.Goals as goal

pub returns : goal.returns
returns c = ap groups_seen c.remove.ensures.items ∙ seen_without c.args.self.now.groups.items c.args.place
