use Rattle.print_laws.proofs.Answering.{only_answer}
use Rattle.print_laws.proofs.Asking.{statement_asked}
use Rattle.print_laws.proofs.Spelling.{statement_spells}
use Rattle.print_laws.proofs.StatementReading.{statement_spelt}
use Rattle.print_laws.proofs.law.print_law.Goals as goal

pub returns-clause-spells : goal.returns-clause-spells
returns-clause-spells c = λ bytes s h. statement_spells s (statement_spelt bytes s h)

pub returns-clause-asked : goal.returns-clause-asked
returns-clause-asked c = λ bytes label s h. statement_spells s (statement_asked bytes label s h)

pub returns-clause-reads : goal.returns-clause-reads
returns-clause-reads c = only_answer
