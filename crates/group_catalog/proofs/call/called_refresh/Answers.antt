-- The text that the arguments spell.
use Rattle.std.proofs.Common.{◌≡◌, ◌∙◌, ℕ, List, Option, Some, ap, subst}
use Rattle.cache_tier.specs.declared.called.Called.{Called}
use Rattle.cache_tier.specs.Called.{called_refresh, spelt_group}
use Rattle.resolution.specs.Results.{Gives}
use Rattle.group_catalog.specs.Catalogs.{groups_in}
use Rattle.group_catalog.proofs.call.called_refresh.Goals as goal

pub returns-in-Some : goal.returns-in-Some
returns-in-Some c =
    let spelt : Some c.in-Some.text.items ≡ spelt_group c.args.arguments.now = rw c.in-Some.is at c.in_ok-spelt_group.ensures in
    subst
    (λ (o : Option (List ℕ)). Gives (λ (x : Called). x) (called_refresh (groups_in c.args.catalog.now) c.args.arguments.now o) c.called_text.result)
    (ap (λ (bytes : List ℕ). Some bytes) c.as_slice.ensures.value ∙ spelt) c.called_text.ensures
