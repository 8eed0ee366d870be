use Rattle.std.proofs.Common.{◌≡◌, ◌≤◌, drop, length}
use Rattle.cache_tier.specs.DueWork.{intervals}
use Rattle.group_catalog.specs.Catalogs.{groups_in}
use Rattle.cache_engine.proofs.due_sets.set_intervals.Given as goal

abbrev pub invariant-loop-place : goal.invariant-loop-place
invariant-loop-place l = record {
  within : l.place ≤ length (groups_in l.catalog);
  found : l.all.items ≡ intervals (drop l.place (groups_in l.catalog));
}

abbrev pub decreases-loop-place : goal.decreases-loop-place
decreases-loop-place l = l.place
