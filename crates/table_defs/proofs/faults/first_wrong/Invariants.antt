-- The names so far are right.
use Rattle.std.proofs.Common.{◌≡◌, [], take, drop}
use Rattle.table_defs.specs.Declarations.{first_wrong}
use Rattle.table_defs.proofs.faults.first_wrong.Given as goal

abbrev pub invariant-loop-i : goal.invariant-loop-i
invariant-loop-i l = first_wrong l.columns (take l.i l.names) (drop l.i l.names) ≡ first_wrong l.columns [] l.names
