use Rattle.std.proofs.Common.{arith, refl}
use Rattle.group_catalog.specs.Catalogs.{groups_in}
use Rattle.aging_cycles.proofs.FitLaws.{element, one_more}
use Rattle.changed_sets.proofs.KeptLaws.{PatchFitsAt, all_patches_fit}
use Rattle.changed_sets.proofs.fitting.are_patches_fit.Goals as goal

pub loop-place-preserved : goal.loop-place-preserved
loop-place-preserved c =
    one_more (PatchFitsAt c.args.tier.now.schema (groups_in c.args.tier.now.catalog)) c.args.patches.now c.loop-place.place c.index-patches-place.result
    (element c.args.patches.now c.loop-place.place c.index-patches-place.result c.loop-place-test.true c.index-patches-place.is)
    (c.if-not-is_fit_at.ensures refl) c.loop-place.invariant

pub returns : goal.returns
returns c = λ yes.
    all_patches_fit c.args.tier.now.schema (groups_in c.args.tier.now.catalog) c.args.patches.now c.loop-place.place
    (let end = c.loop-place-test.false in omega (arith, end)) c.loop-place.invariant
