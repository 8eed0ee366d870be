-- The patches so far fit.
use Rattle.group_catalog.specs.Catalogs.{groups_in}
use Rattle.aging_cycles.proofs.FitLaws.{AllBelow}
use Rattle.changed_sets.proofs.KeptLaws.{PatchFitsAt}
use Rattle.changed_sets.proofs.fitting.are_patches_fit.Given as goal

abbrev pub invariant-loop-place : goal.invariant-loop-place
invariant-loop-place l = AllBelow (PatchFitsAt l.tier.schema (groups_in l.tier.catalog)) l.place l.patches
