use Rattle.aging_cycles.proofs.KeptRows.{stay_keyed, stay_verified}
use Rattle.aging_cycles.proofs.laws.kept_rows_law.Goals as goal

pub returns-clause-keyed : goal.returns-clause-keyed
returns-clause-keyed c = stay_keyed

pub returns-clause-verified : goal.returns-clause-verified
returns-clause-verified c = stay_verified
