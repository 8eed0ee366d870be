use Rattle.cache_tier.proofs.LoadLaws.{group_unloads}
use Rattle.cache_tier.proofs.loading.unload_shown_law.Goals as goal

pub returns : goal.returns
returns c = group_unloads
