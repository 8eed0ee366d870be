use Rattle.row_types.proofs.LiteralLaws.{printed_number_is, printed_text}
use Rattle.row_types.proofs.laws.printed_literal_law.Goals as goal

pub returns-clause-number : goal.returns-clause-number
returns-clause-number c = printed_number_is

pub returns-clause-text : goal.returns-clause-text
returns-clause-text c = printed_text
