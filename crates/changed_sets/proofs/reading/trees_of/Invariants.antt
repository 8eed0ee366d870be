-- The copies so far.
use Rattle.std.proofs.Common.{None, take}
use Rattle.group_catalog.specs.Catalogs.{groups_in}
use Rattle.stored_tier.specs.Refreshing.{choice_of, is_filled}
use Rattle.changed_sets.specs.Alike.{AllAlike}
use Rattle.changed_sets.specs.Since.{trees_of}
use Rattle.changed_sets.proofs.reading.trees_of.Given as goal

abbrev pub invariant-loop-place : goal.invariant-loop-place
invariant-loop-place l = AllAlike (trees_of (is_filled (choice_of l.chosen) None) 0 (take l.place (groups_in l.catalog))) l.trees.items
