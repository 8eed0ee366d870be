use Rattle.std.proofs.Common.{◌≡◌, ◌≤◌, count_by, take}
use Rattle.cache_tier.specs.Sets.{is_in_set}
use Rattle.group_catalog.specs.Catalogs.{groups_in}
use Rattle.stored_tier.proofs.refreshing.set_size.Given as goal

abbrev pub invariant-loop-place : goal.invariant-loop-place
invariant-loop-place l = record {
  few : l.size ≤ l.place;
  same : l.size ≡ count_by (is_in_set l.interval) (take l.place (groups_in l.catalog));
}
