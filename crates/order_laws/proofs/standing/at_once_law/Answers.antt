use Rattle.order_laws.proofs.ProgressLaws.{applies_in_both, comes_at_once}
use Rattle.order_laws.proofs.standing.at_once_law.Goals as goal

pub returns-clause-stands : goal.returns-clause-stands
returns-clause-stands c = comes_at_once

pub returns-clause-applies : goal.returns-clause-applies
returns-clause-applies c = applies_in_both
