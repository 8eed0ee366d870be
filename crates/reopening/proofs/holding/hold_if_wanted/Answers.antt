use Rattle.std.proofs.Common.{◌≡◌, ◌∙◌, rules, sym, true}
use Rattle.stored_tier.specs.Refreshing.{end_of}
use Rattle.reopening.proofs.HoldingLaws.{wanted_so}
use Rattle.reopening.proofs.holding.hold_if_wanted.Goals as goal

pub returns-clause-performs : goal.returns-clause-performs
returns-clause-performs g c =
    let wanted : c.is_wanted.result ≡ true = search (rules, c.if-not-is_wanted.false) in
    wanted_so c.args.tier.now c.hold_all.new.tier _ _ c.args.place (end_of c.hold_all.result) (sym c.is_wanted.ensures ∙ wanted) c.hold_all.ensures.performs
