use Rattle.std.proofs.Common.{◌≡◌, drop}
use Rattle.stored_tier.specs.Refreshing.{moment_in}
use Rattle.cache_engine.proofs.due_sets.last_refresh.Given as goal

abbrev pub invariant-loop-set : goal.invariant-loop-set
invariant-loop-set l = moment_in (drop l.set-index l.sets) l.interval ≡ moment_in l.sets l.interval
