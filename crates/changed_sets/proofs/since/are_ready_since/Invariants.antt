-- The groups so far are ready.
use Rattle.std.proofs.Common.{◌≡◌, drop}
use Rattle.group_catalog.specs.Catalogs.{groups_in}
use Rattle.stored_tier.specs.Refreshing.{choice_of}
use Rattle.changed_sets.specs.Since.{are_ready_since}
use Rattle.changed_sets.proofs.since.are_ready_since.Given as goal

abbrev pub invariant-loop-place : goal.invariant-loop-place
invariant-loop-place l = are_ready_since (choice_of l.chosen) l.since.0 l.place (drop l.place (groups_in l.catalog)) ≡ are_ready_since (choice_of l.chosen) l.since.0 0 (groups_in l.catalog)
