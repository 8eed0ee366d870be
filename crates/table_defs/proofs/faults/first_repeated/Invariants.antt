-- The columns so far are different.
use Rattle.std.proofs.Common.{◌≡◌, [], take, drop}
use Rattle.table_defs.specs.Declarations.{first_repeated}
use Rattle.table_defs.proofs.faults.first_repeated.Given as goal

abbrev pub invariant-loop-i : goal.invariant-loop-i
invariant-loop-i l = first_repeated (take l.i l.columns) (drop l.i l.columns) ≡ first_repeated [] l.columns
