-- The marks so far.
use Rattle.std.proofs.Common.{◌≡◌, map}
use Rattle.session_state.specs.Holding.{key_of_mark}
use Rattle.session_state.proofs.mark.marks.Given as goal

abbrev pub invariant-loop-one : goal.invariant-loop-one
invariant-loop-one l = map key_of_mark l.marks.items ≡ l.yielded
