use Rattle.std.proofs.Common.{◌≡◌, ◌∙◌, ap, subst, sym}
use Rattle.expressions.specs.Views.{HasSteps, expression_of}
use Rattle.resolution.specs.Placing.{expression_seen}
use Rattle.cache_tier.specs.Wants.{literal_in}
use Rattle.statement_uses.proofs.WantLaws.{no_literal}
use Rattle.statement_uses.proofs.wanting.literal_in.Goals as goal

pub returns-in-Chain : goal.returns-in-Chain
returns-in-Chain c =
    sym
    (ap (λ e. literal_in (expression_seen e)) (sym c.expr.view_is)
    ∙ ap (λ n. literal_in (expression_seen (expression_of n))) c.in-Chain.is
    ∙ no_literal c.in-Chain.field-0.value c.in-Chain.field-1.items (subst HasSteps c.in-Chain.is c.expr.invariant))
