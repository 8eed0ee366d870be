use Rattle.std.proofs.Common.{◌≡◌, ◌∙◌, false, rules, sym}
use Rattle.reopening.proofs.ViewingLaws.{viewed_none}
use Rattle.reopening.proofs.reloading.view_again.Goals as goal

pub returns-then-not-is_some_viewed-clause-performs : goal.returns-then-not-is_some_viewed-clause-performs
returns-then-not-is_some_viewed-clause-performs g c =
    let none : c.is_some_viewed.result ≡ false = search (rules, c.if-not-is_some_viewed.true) in
    viewed_none c.args.tier.now _ (sym none ∙ c.is_some_viewed.ensures)
