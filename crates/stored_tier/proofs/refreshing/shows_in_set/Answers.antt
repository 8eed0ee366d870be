use Rattle.std.proofs.Common.{◌&&◌, ◌∙◌, ap, sym}
use Rattle.cache_tier.specs.Sets.{has_something}
use Rattle.group_catalog.specs.Kept.{group_seen}
use Rattle.stored_tier.proofs.RefreshSteps.{in_set_bare, no_group_stored}
use Rattle.stored_tier.proofs.refreshing.shows_in_set.Goals as goal

pub returns-in-None : goal.returns-in-None
returns-in-None c = λ a g is at. absurd (no_group_stored c.args.tier.now a c.args.place g is at c.in-None.ensures)

pub returns-then-is_in_set : goal.returns-then-is_in_set
returns-then-is_in_set c = λ a g is at.
    c.has_something.ensures a g is at
    ∙ sym (ap (λ b. b && has_something g) (sym (in_set_bare c.args.tier.now a c.args.place c.args.interval g (group_seen c.in-Some.group.now) is at c.in-Some.ensures) ∙ sym c.is_in_set.ensures ∙ c.if-is_in_set.true))

pub returns-else-is_in_set : goal.returns-else-is_in_set
returns-else-is_in_set c = λ a g is at.
    c.if-is_in_set.false
    ∙ sym (ap (λ b. b && has_something g) (sym (in_set_bare c.args.tier.now a c.args.place c.args.interval g (group_seen c.in-Some.group.now) is at c.in-Some.ensures) ∙ sym c.is_in_set.ensures ∙ c.if-is_in_set.false))
