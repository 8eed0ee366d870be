-- As the tables are lent.
use Rattle.std.proofs.Common.{◌∙◌, nat_eq, sym}
use Rattle.cache_tier.specs.Definitions.{Placed}
use Rattle.group_catalog.specs.Placed.{table_seen}
use Rattle.group_catalog.proofs.ListLaws.{any_map}
use Rattle.group_catalog.proofs.clauses.is_inside.Goals as goal

pub returns : goal.returns
returns c = c.has_number.ensures ∙ sym (any_map (λ (p : Placed). nat_eq p.id.0 c.args.place) table_seen c.args.tables.now)
