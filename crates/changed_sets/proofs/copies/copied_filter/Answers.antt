use Rattle.std.proofs.Common.{◌≡◌, ◌∙◌, Some, ap, rules, sym}
use Rattle.expressions.specs.Conditions.{holds}
use Rattle.instances.specs.Views.{is_true, selects}
use Rattle.changed_sets.proofs.copies.copied_filter.Goals as goal

pub returns-in_ok-cond-in-Some : goal.returns-in_ok-cond-in-Some
returns-in_ok-cond-in-Some c =
    let same : holds c.in_ok-cond-in-Some.cond ≡ holds c.in-Some.cond = ap holds c.in_ok-cond-in-Some.ensures in
    let is : c.args.filter.now ≡ Some c.in-Some.cond = Prim.search rules in
    (λ i row. is_true (same i row)) ∙ ap selects (sym is)
