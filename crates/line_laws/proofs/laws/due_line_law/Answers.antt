use Rattle.line_laws.proofs.DueStatements.{due_aging_kept, due_doubt_kept, due_round_kept, due_sets_kept}
use Rattle.line_laws.proofs.laws.due_line_law.Goals as goal

pub returns-clause-doubt : goal.returns-clause-doubt
returns-clause-doubt c = due_doubt_kept

pub returns-clause-round : goal.returns-clause-round
returns-clause-round c = due_round_kept

pub returns-clause-sets : goal.returns-clause-sets
returns-clause-sets c = due_sets_kept

pub returns-clause-aging : goal.returns-clause-aging
returns-clause-aging c = due_aging_kept
