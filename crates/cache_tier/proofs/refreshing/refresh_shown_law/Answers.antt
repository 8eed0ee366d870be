use Rattle.cache_tier.proofs.RefreshLaws.{groups_refresh}
use Rattle.cache_tier.proofs.refreshing.refresh_shown_law.Goals as goal

pub returns : goal.returns
returns c = groups_refresh
