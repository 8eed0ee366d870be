use Rattle.numbers.proofs.Powers.{power_least}
use Rattle.reply_lines.proofs.values.power_of_ten.Goals as goal

pub returns-clause-least : goal.returns-clause-least
returns-clause-least c = rw (c.pow.ensures, c.from.ensures) (power_least c.args.exponent)
