use Rattle.cache_tier.proofs.DropLaws.{tier_opens}
use Rattle.cache_tier.proofs.defining.opened_law.Goals as goal

pub returns : goal.returns
returns c = tier_opens
