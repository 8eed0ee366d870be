use Rattle.line_laws.proofs.BrokenDue.{asks_broken, clock_broken, closes_broken, console_broken, creates_table_broken, opens_broken, rolls_back_broken, sets_level_broken}
use Rattle.line_laws.proofs.laws.broken_quiet_law.Goals as goal

pub returns-clause-opens : goal.returns-clause-opens
returns-clause-opens c = opens_broken

pub returns-clause-closes : goal.returns-clause-closes
returns-clause-closes c = closes_broken

pub returns-clause-sets_level : goal.returns-clause-sets_level
returns-clause-sets_level c = sets_level_broken

pub returns-clause-rolls_back : goal.returns-clause-rolls_back
returns-clause-rolls_back c = rolls_back_broken

pub returns-clause-clock : goal.returns-clause-clock
returns-clause-clock c = clock_broken

pub returns-clause-asks : goal.returns-clause-asks
returns-clause-asks c = asks_broken

pub returns-clause-creates : goal.returns-clause-creates
returns-clause-creates c = creates_table_broken

pub returns-clause-writes : goal.returns-clause-writes
returns-clause-writes c = console_broken
