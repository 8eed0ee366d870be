use Rattle.reopened_laws.proofs.SiteLaws.{site_may_open}
use Rattle.reopened_laws.proofs.laws.site_law.Goals as goal

pub returns : goal.returns
returns c = site_may_open
