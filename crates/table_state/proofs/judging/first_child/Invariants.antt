-- No table so far has a child, so those that are left decide. They get fewer.
use Rattle.std.proofs.Common.{◌≡◌, length}
use Rattle.table_state.specs.Refusals.{first_child}
use Rattle.table_state.proofs.judging.first_child.Given as goal

abbrev pub invariant-loop-def : goal.invariant-loop-def
invariant-loop-def l = first_child l.table l.key l.defs l.tables ≡ first_child l.table l.key l.later l.others

abbrev pub decreases-loop-def : goal.decreases-loop-def
decreases-loop-def l = length l.later
