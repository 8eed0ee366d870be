-- The text spells this name.
use Rattle.std.proofs.Common.{ℕ, List, subst}
use Rattle.cache_tier.specs.declared.called.Called.{Called}
use Rattle.cache_tier.specs.Called.{refreshed_group}
use Rattle.cache_tier.specs.Groups.{group_at, place_called}
use Rattle.resolution.specs.Results.{Gives}
use Rattle.group_catalog.specs.Catalogs.{groups_in}
use Rattle.group_catalog.proofs.call.called_text.Goals as goal

pub returns-in-Ok : goal.returns-in-Ok
returns-in-Ok c =
    let groups = groups_in c.args.catalog.now in
    rw c.in-Ok.ensures.name
    (subst
    (λ (n : List ℕ). Gives (λ (x : Called). x) (refreshed_group n c.args.arguments.now (group_at groups (place_called groups n))) c.called_group.result)
    c.in-Ok.ensures.folds c.called_group.ensures)
