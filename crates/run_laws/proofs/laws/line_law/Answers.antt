use Rattle.run_laws.proofs.BrokenLines.{step_breaks}
use Rattle.run_laws.proofs.LineLaws.{step_kept, step_kinds}
use Rattle.run_laws.proofs.laws.line_law.Goals as goal

pub returns-clause-journal : goal.returns-clause-journal
returns-clause-journal c = step_kept

pub returns-clause-kinds : goal.returns-clause-kinds
returns-clause-kinds c = step_kinds

pub returns-clause-breaks : goal.returns-clause-breaks
returns-clause-breaks c = step_breaks
