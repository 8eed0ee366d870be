use Rattle.run_laws.proofs.ReopenLaws.{begun_again, reopened_kept, stood_kept}
use Rattle.run_laws.proofs.laws.reopened_law.Goals as goal

pub returns-clause-reopens : goal.returns-clause-reopens
returns-clause-reopens c = reopened_kept

pub returns-clause-again : goal.returns-clause-again
returns-clause-again c = begun_again

pub returns-clause-stops : goal.returns-clause-stops
returns-clause-stops c = stood_kept
