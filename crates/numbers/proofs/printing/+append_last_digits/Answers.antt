use Rattle.std.proofs.Common.{arith}
use Rattle.std.proofs.lemmas.Grind.{common_steps}
use Rattle.numbers.proofs.Digits.{last_digits_more}
use Rattle.numbers.proofs.printing.+append_last_digits.Goals as goal

pub returns-clause-ok : goal.returns-clause-ok
returns-clause-ok t c = grind (arith, common_steps, last_digits_more)
