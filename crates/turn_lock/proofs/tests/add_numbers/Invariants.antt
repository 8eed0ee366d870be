use Rattle.std.proofs.Common.{◌≡◌}
use Rattle.turn_lock.specs.Passes.{pass_lock, pass_parts}
use Rattle.turn_lock.proofs.tests.add_numbers.Given as goal

abbrev pub invariant-loop-i : goal.invariant-loop-i
invariant-loop-i g l = (pass_lock l.pass ≡ pass_lock l.initial.pass) × (pass_parts l.pass ≡ pass_parts l.initial.pass)
