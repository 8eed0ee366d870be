use Rattle.std.proofs.Common.{subst}
use Rattle.group_catalog.specs.Catalogs.{groups_in}
use Rattle.changed_sets.specs.Fitting.{ArePatchesFit}
use Rattle.changed_sets.proofs.fitting.are_known_fit.Goals as goal

pub returns : goal.returns
returns c = λ yes.
    subst (ArePatchesFit c.args.tier.now.schema (groups_in c.args.tier.now.catalog)) c.as_slice.ensures.value (c.are_patches_fit.ensures yes)
