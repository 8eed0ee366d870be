use Rattle.session_state.proofs.GrownLaws.{footprint_grown, kept_grown, knows_more}
use Rattle.session_state.proofs.laws.grown_law.Goals as goal

pub returns-clause-kept : goal.returns-clause-kept
returns-clause-kept c = λ schema more s grew kept. kept_grown schema more grew s kept

pub returns-clause-footprint : goal.returns-clause-footprint
returns-clause-footprint c = λ schema more ops grew defined. footprint_grown schema more grew ops defined

pub returns-clause-knows : goal.returns-clause-knows
returns-clause-knows c = knows_more
