use Rattle.std.proofs.Common.{◌≡◌, ◌++◌, drop}
use Rattle.group_catalog.specs.Catalogs.{groups_in}
use Rattle.stored_tier.specs.Refreshing.{choice_of, tables_read}
use Rattle.stored_tier.proofs.refreshing.tables_read.Given as goal

abbrev pub invariant-loop-place : goal.invariant-loop-place
invariant-loop-place l = l.tables.items ++ tables_read (choice_of l.chosen) l.place (drop l.place (groups_in l.catalog)) ≡ tables_read (choice_of l.chosen) 0 (groups_in l.catalog)
