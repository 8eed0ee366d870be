-- The text so far stands before what the bytes left stand for.
use Rattle.std.proofs.Common.{◌≡◌, ◌++◌, length}
use Rattle.std.specs.Option.{option_map}
use Rattle.row_types.specs.Literals.{undoubled}
use Rattle.row_types.proofs.literal.undoubled.Given as goal

abbrev pub invariant-loop-left : goal.invariant-loop-left
invariant-loop-left l = undoubled l.quoted ≡ option_map (λ more. l.text.items ++ more) (undoubled l.left)

abbrev pub decreases-loop-left : goal.decreases-loop-left
decreases-loop-left l = length l.left
