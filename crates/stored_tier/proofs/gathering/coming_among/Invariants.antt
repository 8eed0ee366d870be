-- Of the rows so far those that come.
use Rattle.stored_tier.specs.Choosing.{Chooses, comes}
use Rattle.stored_tier.proofs.gathering.coming_among.Given as goal

abbrev pub invariant-loop-place : goal.invariant-loop-place
invariant-loop-place l = Chooses (comes l.which l.store) l.rows l.place l.out
