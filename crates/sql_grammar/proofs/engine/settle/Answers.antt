use Rattle.sql_grammar.specs.Machine.{last, more}
use Rattle.sql_grammar.proofs.engine.settle.Goals as goal

pub loop-done-preserved : goal.loop-done-preserved
loop-done-preserved c = λ m s. c.loop-done.invariant m (more (rw c.in-On.is at c.in_ok-done.ensures) s)

pub returns-in-Took-clause-settles : goal.returns-in-Took-clause-settles
returns-in-Took-clause-settles c = c.loop-done.invariant _ (last (rw c.in-Took.is at c.in_ok-done.ensures))

pub returns-in-Wrong-clause-settles : goal.returns-in-Wrong-clause-settles
returns-in-Wrong-clause-settles c = c.loop-done.invariant _ (last (rw c.in-Wrong.is at c.in_ok-done.ensures))

pub returns-in-Deep-clause-settles : goal.returns-in-Deep-clause-settles
returns-in-Deep-clause-settles c = c.loop-done.invariant _ (last (rw c.in-Deep.is at c.in_ok-done.ensures))

pub returns-in-Ended-clause-settles : goal.returns-in-Ended-clause-settles
returns-in-Ended-clause-settles c = c.loop-done.invariant _ (last (rw c.in-Ended.is at c.in_ok-done.ensures))
