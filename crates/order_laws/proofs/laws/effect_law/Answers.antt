use Rattle.order_laws.proofs.StepLaws.{applies_alike}
use Rattle.order_laws.proofs.EffectLaws.{has_written}
use Rattle.order_laws.proofs.laws.effect_law.Goals as goal

pub returns-clause-applies : goal.returns-clause-applies
returns-clause-applies c = applies_alike

pub returns-clause-effect : goal.returns-clause-effect
returns-clause-effect c = has_written
