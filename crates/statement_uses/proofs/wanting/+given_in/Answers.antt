use Rattle.std.proofs.Common.{◌≡◌, ◌∙◌, ap, subst, sym}
use Rattle.cache_tier.specs.Wants.{conjuncts, given_in}
use Rattle.expressions.specs.Views.{HasOthers, condition_of}
use Rattle.resolution.specs.Placing.{condition_seen}
use Rattle.statement_uses.proofs.WantLaws.{none_given}
use Rattle.statement_uses.proofs.wanting.+given_in.Goals as goal

pub given_in-returns-in-Or : goal.given_in-returns-in-Or
given_in-returns-in-Or t c =
    sym
    (ap (λ x. given_in c.args.place (conjuncts (condition_seen x))) (sym c.cond.view_is)
    ∙ ap (λ n. given_in c.args.place (conjuncts (condition_seen (condition_of n)))) c.in-Or.is
    ∙ none_given c.args.place c.in-Or.field-0.value c.in-Or.field-1.items (subst HasOthers c.in-Or.is c.cond.invariant))
