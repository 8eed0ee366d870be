use Rattle.cache_tier.proofs.LoadLaws.{group_loads}
use Rattle.cache_tier.proofs.loading.load_shown_law.Goals as goal

pub returns : goal.returns
returns c = group_loads
