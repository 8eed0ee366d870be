use Rattle.std.proofs.Common.{◌≡◌, ℕ, take, true}
use Rattle.std.specs.List.{list_all}
use Rattle.stored_tier.specs.Refreshing.{has_moment, moment_in}
use Rattle.cache_engine.proofs.due_sets.with_entries.Given as goal

abbrev pub invariant-loop-interval : goal.invariant-loop-interval
invariant-loop-interval l = record {
  same : (i : ℕ) → moment_in l.all.items i ≡ moment_in l.sets i;
  entries : list_all (has_moment l.all.items) (take l.interval-index l.intervals) ≡ true;
}
