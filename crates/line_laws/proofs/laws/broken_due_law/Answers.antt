use Rattle.line_laws.proofs.BrokenDue.{due_aging_broken, due_doubt_never, due_round_broken, due_sets_broken, finishes_broken}
use Rattle.line_laws.proofs.laws.broken_due_law.Goals as goal

pub returns-clause-doubt : goal.returns-clause-doubt
returns-clause-doubt c = due_doubt_never

pub returns-clause-round : goal.returns-clause-round
returns-clause-round c = due_round_broken

pub returns-clause-sets : goal.returns-clause-sets
returns-clause-sets c = due_sets_broken

pub returns-clause-aging : goal.returns-clause-aging
returns-clause-aging c = due_aging_broken

pub returns-clause-ends : goal.returns-clause-ends
returns-clause-ends c = finishes_broken
