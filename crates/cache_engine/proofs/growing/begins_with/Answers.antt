use Rattle.std.proofs.Common.{arith}
use Rattle.std.proofs.lemmas.Bool.Decides.{nat_tests}
use Rattle.cache_engine.proofs.GrowingLaws.{begins_none}
use Rattle.cache_engine.proofs.growing.begins_with.Goals as goal

pub returns : goal.returns
returns c = λ is. c.loop-a.invariant (begins_none c.loop-a.these.now c.loop-a.those.now (grind (arith, nat_tests, c.is_empty.ensures, is)))
