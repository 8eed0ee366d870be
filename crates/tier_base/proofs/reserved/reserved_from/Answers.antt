use Rattle.std.proofs.Common.{◌∙◌}
use Rattle.tier_base.specs.Names.{reserved}
use Rattle.tier_base.proofs.Letters.{letter_finds}
use Rattle.tier_base.proofs.reserved.reserved_from.Goals as goal

pub returns-in-65 : goal.returns-in-65
returns-in-65 c b word h = letter_finds reserved 65 b word (h ∙ c.in-65.is)

pub returns-in-66 : goal.returns-in-66
returns-in-66 c b word h = letter_finds reserved 66 b word (h ∙ c.in-66.is)

pub returns-in-67 : goal.returns-in-67
returns-in-67 c b word h = letter_finds reserved 67 b word (h ∙ c.in-67.is)

pub returns-in-68 : goal.returns-in-68
returns-in-68 c b word h = letter_finds reserved 68 b word (h ∙ c.in-68.is)

pub returns-in-70 : goal.returns-in-70
returns-in-70 c b word h = letter_finds reserved 70 b word (h ∙ c.in-70.is)

pub returns-in-71 : goal.returns-in-71
returns-in-71 c b word h = letter_finds reserved 71 b word (h ∙ c.in-71.is)

pub returns-in-73 : goal.returns-in-73
returns-in-73 c b word h = letter_finds reserved 73 b word (h ∙ c.in-73.is)

pub returns-in-75 : goal.returns-in-75
returns-in-75 c b word h = letter_finds reserved 75 b word (h ∙ c.in-75.is)

pub returns-in-76 : goal.returns-in-76
returns-in-76 c b word h = letter_finds reserved 76 b word (h ∙ c.in-76.is)

pub returns-in-77 : goal.returns-in-77
returns-in-77 c b word h = letter_finds reserved 77 b word (h ∙ c.in-77.is)

pub returns-in-78 : goal.returns-in-78
returns-in-78 c b word h = letter_finds reserved 78 b word (h ∙ c.in-78.is)

pub returns-in-79 : goal.returns-in-79
returns-in-79 c b word h = letter_finds reserved 79 b word (h ∙ c.in-79.is)

pub returns-in-80 : goal.returns-in-80
returns-in-80 c b word h = letter_finds reserved 80 b word (h ∙ c.in-80.is)

pub returns-in-82 : goal.returns-in-82
returns-in-82 c b word h = letter_finds reserved 82 b word (h ∙ c.in-82.is)

pub returns-in-83 : goal.returns-in-83
returns-in-83 c b word h = letter_finds reserved 83 b word (h ∙ c.in-83.is)

pub returns-in-84 : goal.returns-in-84
returns-in-84 c b word h = letter_finds reserved 84 b word (h ∙ c.in-84.is)

pub returns-in-85 : goal.returns-in-85
returns-in-85 c b word h = letter_finds reserved 85 b word (h ∙ c.in-85.is)

pub returns-in-86 : goal.returns-in-86
returns-in-86 c b word h = letter_finds reserved 86 b word (h ∙ c.in-86.is)

pub returns-in-87 : goal.returns-in-87
returns-in-87 c b word h = letter_finds reserved 87 b word (h ∙ c.in-87.is)
