-- A text without a quote stands for itself.
use Rattle.std.proofs.Common.{◌≡◌, ◌∙◌, sym, Some}
use Rattle.row_types.specs.Literals.{undoubled}
use Rattle.row_types.proofs.QuoteLemmas.{undoubled-none}
use Rattle.row_types.proofs.literal.parse_text.Goals as goal

pub returns-then-not-contains : goal.returns-then-not-contains
returns-then-not-contains c =
    let same : undoubled c.args.quoted.now ≡ Some c.args.quoted.now = undoubled-none c.args.quoted.now (sym c.contains.ensures.value ∙ c.if-not-contains.true) in
    rw same c.held_text.ensures
