use Rattle.line_laws.proofs.ConsoleStatements.{finishes_kept}
use Rattle.line_laws.proofs.laws.end_line_law.Goals as goal

pub returns : goal.returns
returns c = finishes_kept
