-- No byte is left.
use Rattle.std.proofs.Common.{◌≡◌, ◌∙◌, sym, length, arith}
use Rattle.std.proofs.lemmas.Bool.Decides.{nat_tests}
use Rattle.row_types.proofs.QuoteLemmas.{nothing_left}
use Rattle.row_types.proofs.literal.undoubled.Goals as goal

pub returns : goal.returns
returns c =
    let none : length c.loop-left.left.now ≡ 0 = grind (arith, nat_tests, c.is_empty.ensures, c.loop-left-test.false) in
    sym (c.loop-left.invariant ∙ nothing_left c.loop-left.text.items c.loop-left.left.now none)
