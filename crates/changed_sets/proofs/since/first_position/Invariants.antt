-- The groups so far keep no rows.
use Rattle.std.proofs.Common.{◌≡◌, drop, None}
use Rattle.group_catalog.specs.Catalogs.{groups_in}
use Rattle.stored_tier.specs.Refreshing.{choice_of, is_filled}
use Rattle.changed_sets.specs.Since.{first_position}
use Rattle.changed_sets.proofs.since.first_position.Given as goal

abbrev pub invariant-loop-place : goal.invariant-loop-place
invariant-loop-place l = first_position (is_filled (choice_of l.chosen) None) l.place (drop l.place (groups_in l.catalog)) ≡ first_position (is_filled (choice_of l.chosen) None) 0 (groups_in l.catalog)
