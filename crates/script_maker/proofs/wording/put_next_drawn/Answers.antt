use Rattle.script_maker.specs.Script.{line_drawn}
use Rattle.script_maker.proofs.wording.put_next_drawn.Goals as goal

pub returns-clause-line : goal.returns-clause-line
unfolding line_drawn
returns-clause-line c = let a = c.drawn-first.ensures in let b = c.drawn-second.ensures in let d = c.given_of.ensures in let e = c.given_of-2.ensures in let f = c.in_ok-put_drawn.ensures in cc
