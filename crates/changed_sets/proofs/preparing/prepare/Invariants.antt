-- The groups so far.
use Rattle.std.proofs.Common.{◌≡◌, None}
use Rattle.group_catalog.specs.Catalogs.{groups_in}
use Rattle.stored_tier.specs.Refreshing.{choice_of, is_filled}
use Rattle.changed_sets.specs.Preparing.{count_before}
use Rattle.changed_sets.proofs.ListSteps.{UpTo}
use Rattle.changed_sets.proofs.PrepareSteps.{PatchAt}
use Rattle.changed_sets.proofs.preparing.prepare.Given as goal

abbrev pub invariant-loop-place : goal.invariant-loop-place
invariant-loop-place l = record {
  patches : UpTo (PatchAt (is_filled (choice_of l.chosen) None) l.tier l.gaining l.touched) l.place l.patches.items;
  at : l.at ≡ count_before (is_filled (choice_of l.chosen) None) l.place (groups_in l.tier.catalog);
}
