-- The tables so far.
use Rattle.stored_tier.proofs.VerifyLaws.{AreKeyedBelow}
use Rattle.stored_tier.proofs.tier.Tier.are_keyed.Given as goal

abbrev pub invariant-loop-place : goal.invariant-loop-place
invariant-loop-place l = AreKeyedBelow l.self l.place
