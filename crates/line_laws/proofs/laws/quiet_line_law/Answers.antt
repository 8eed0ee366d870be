use Rattle.line_laws.proofs.AskedLaws.{asks_kept}
use Rattle.line_laws.proofs.QuietStatements.{clock_kept, closes_kept, opens_kept, rolls_back_kept, sets_level_kept}
use Rattle.line_laws.proofs.laws.quiet_line_law.Goals as goal

pub returns-clause-opens : goal.returns-clause-opens
returns-clause-opens c = opens_kept

pub returns-clause-closes : goal.returns-clause-closes
returns-clause-closes c = closes_kept

pub returns-clause-sets_level : goal.returns-clause-sets_level
returns-clause-sets_level c = sets_level_kept

pub returns-clause-rolls_back : goal.returns-clause-rolls_back
returns-clause-rolls_back c = rolls_back_kept

pub returns-clause-clock : goal.returns-clause-clock
returns-clause-clock c = clock_kept

pub returns-clause-asks : goal.returns-clause-asks
returns-clause-asks c = asks_kept
