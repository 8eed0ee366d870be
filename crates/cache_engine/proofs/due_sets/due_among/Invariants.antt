use Rattle.std.proofs.Common.{◌≡◌, ◌++◌, drop, filter}
use Rattle.cache_engine.specs.DueItems.{is_due_at}
use Rattle.cache_engine.proofs.due_sets.due_among.Given as goal

abbrev pub invariant-loop-interval : goal.invariant-loop-interval
invariant-loop-interval l = l.due.items ++ filter (is_due_at l.now l.sets) (drop l.interval-index l.all) ≡ filter (is_due_at l.now l.sets) l.all
