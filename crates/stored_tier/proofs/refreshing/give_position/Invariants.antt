use Rattle.std.proofs.Common.{◌≡◌}
use Rattle.cache_tier.specs.Sets.{changed_from}
use Rattle.group_catalog.specs.Catalogs.{groups_in}
use Rattle.stored_tier.specs.Refreshing.{choice_of, positioned}
use Rattle.stored_tier.proofs.RefreshSteps.{before_place}
use Rattle.stored_tier.proofs.refreshing.give_position.Given as goal

abbrev pub invariant-loop-place : goal.invariant-loop-place
invariant-loop-place l = groups_in l.catalog ≡ changed_from (before_place l.place (choice_of l.chosen)) (positioned l.position.0) 0 (groups_in l.fn.catalog)
