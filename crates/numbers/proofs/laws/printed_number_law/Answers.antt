use Rattle.numbers.proofs.TextLaws.{printed_is_read}
use Rattle.numbers.proofs.laws.printed_number_law.Goals as goal

pub returns : goal.returns
returns c = record { read = printed_is_read }
