use Rattle.std.proofs.Common.{◌∙◌, ap}
use Rattle.stored_tier.specs.Refreshing.{moment_in}
use Rattle.stored_tier.proofs.RefreshSteps.{moment_pushed}
use Rattle.stored_tier.proofs.refreshing.make_moment.Goals as goal

pub returns-clause-same : goal.returns-clause-same
returns-clause-same c = λ i. ap (λ sets. moment_in sets i) c.in_ok-push.ensures.items ∙ moment_pushed c.args.sets.now.items c.args.interval i
