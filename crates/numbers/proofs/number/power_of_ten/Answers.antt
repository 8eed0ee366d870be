use Rattle.numbers.proofs.Powers.{power_least, power_greatest}
use Rattle.numbers.proofs.number.power_of_ten.Goals as goal

pub returns-clause-least : goal.returns-clause-least
returns-clause-least c = rw (c.pow.ensures, c.from.ensures) (power_least c.args.exponent)

pub returns-clause-greatest : goal.returns-clause-greatest
returns-clause-greatest c = rw (c.pow.ensures, c.from.ensures) (power_greatest c.args.exponent c.requires)
