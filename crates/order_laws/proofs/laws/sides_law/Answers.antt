use Rattle.order_laws.proofs.EffectLaws.{leads_alone, leads_over, sides_no_conflict}
use Rattle.order_laws.proofs.laws.sides_law.Goals as goal

pub returns-clause-apart : goal.returns-clause-apart
returns-clause-apart c = sides_no_conflict

pub returns-clause-alone : goal.returns-clause-alone
returns-clause-alone c = leads_alone

pub returns-clause-over : goal.returns-clause-over
returns-clause-over c = leads_over
