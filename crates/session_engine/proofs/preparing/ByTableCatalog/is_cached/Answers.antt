use Rattle.std.proofs.Common.{◌∙◌}
use Rattle.cache_tier.specs.Groups.{Group, is_defined_on}
use Rattle.group_catalog.specs.Catalogs.{groups_in}
use Rattle.stored_tier.proofs.OwnSeen.{any_map}
use Rattle.session_engine.proofs.preparing.ByTableCatalog.is_cached.Goals as goal

pub returns : goal.returns
returns c = c.has_table.ensures ∙ any_map (is_defined_on c.args.table) (λ (g : Group). g.def) (groups_in c.args.self.now.0.now)
