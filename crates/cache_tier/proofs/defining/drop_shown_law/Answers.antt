use Rattle.cache_tier.proofs.DropLaws.{group_drops}
use Rattle.cache_tier.proofs.defining.drop_shown_law.Goals as goal

pub returns : goal.returns
returns c = group_drops
