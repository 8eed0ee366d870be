use Rattle.std.proofs.Common.{◌∙◌, ap, sym}
use Rattle.cache_tier.specs.Groups.{Group}
use Rattle.group_catalog.specs.Kept.{group_seen}
use Rattle.stored_tier.proofs.RefreshSteps.{listed_something, loaded_something, no_group_stored, stored_group}
use Rattle.stored_tier.proofs.refreshing.has_something.Goals as goal

pub returns-in-None : goal.returns-in-None
returns-in-None c = λ a g is at. absurd (no_group_stored c.args.tier.now a c.args.place g is at c.in-None.ensures)

pub returns-then-group : goal.returns-then-group
returns-then-group c = λ a g is at.
    let dynamic = ap (λ (y : Group). y.def.dynamic) (sym (stored_group c.args.tier.now a c.args.place g (group_seen c.in-Some.group.now) is at c.in-Some.ensures)) ∙ c.if-group.true in
    listed_something g c.holds_some.result dynamic (c.holds_some.ensures a g is at dynamic)

pub returns-else-group : goal.returns-else-group
returns-else-group c = λ a g is at. loaded_something c.args.tier.now a c.args.place g (group_seen c.in-Some.group.now) is at c.in-Some.ensures c.if-group.false
