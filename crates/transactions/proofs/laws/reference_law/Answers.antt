use Rattle.transactions.proofs.ReferLaws.{defined_back, resolved_back}
use Rattle.transactions.proofs.laws.reference_law.Goals as goal

pub returns : goal.returns
returns c = record { defined = defined_back; declared = resolved_back }
