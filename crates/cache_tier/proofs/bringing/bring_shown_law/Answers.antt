use Rattle.cache_tier.proofs.BringLaws.{group_brings, group_joins}
use Rattle.cache_tier.proofs.bringing.bring_shown_law.Goals as goal

pub returns : goal.returns
returns c = record { written = group_brings; read_only = group_joins }
