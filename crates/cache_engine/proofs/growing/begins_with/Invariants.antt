-- The definitions so far are the same, so those that are left decide. They get fewer.
use Rattle.std.proofs.Common.{length}
use Rattle.tier_journal.specs.Ways.{HasBecome}
use Rattle.cache_engine.proofs.growing.begins_with.Given as goal

abbrev pub invariant-loop-a : goal.invariant-loop-a
invariant-loop-a l = HasBecome l.these l.those → HasBecome l.front l.whole

abbrev pub decreases-loop-a : goal.decreases-loop-a
decreases-loop-a l = length l.these
