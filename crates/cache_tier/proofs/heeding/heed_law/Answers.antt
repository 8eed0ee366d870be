use Rattle.cache_tier.proofs.StatementLaws.{heed_leads}
use Rattle.cache_tier.proofs.heeding.heed_law.Goals as goal

pub returns : goal.returns
returns c = heed_leads
