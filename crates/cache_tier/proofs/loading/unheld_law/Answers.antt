use Rattle.cache_tier.proofs.LockLaws.{untouched}
use Rattle.cache_tier.proofs.loading.unheld_law.Goals as goal

pub returns : goal.returns
returns c w place g gone all test s x at writes tests free = untouched w x place g at writes gone all test tests s free
