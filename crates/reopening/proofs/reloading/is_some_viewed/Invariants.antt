use Rattle.std.proofs.Common.{◌≡◌, drop}
use Rattle.std.specs.List.{list_any}
use Rattle.group_catalog.specs.Catalogs.{groups_in}
use Rattle.stored_tier.specs.Refreshing.{is_shown_again}
use Rattle.reopening.proofs.reloading.is_some_viewed.Given as goal

abbrev pub invariant-loop-place : goal.invariant-loop-place
invariant-loop-place l = list_any is_shown_again (drop l.place (groups_in l.catalog)) ≡ list_any is_shown_again (groups_in l.catalog)
