use Rattle.order_laws.proofs.EffectLaws.{past_apart}
use Rattle.order_laws.proofs.NextLaws.{goes_first}
use Rattle.order_laws.proofs.laws.past_law.Goals as goal

pub returns-clause-past : goal.returns-clause-past
returns-clause-past c = past_apart

pub returns-clause-first : goal.returns-clause-first
returns-clause-first c = goes_first
