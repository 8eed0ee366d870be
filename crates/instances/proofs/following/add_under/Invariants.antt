-- The rows so far that refer to the parent.
use Rattle.std.proofs.Common.{◌-◌}
use Rattle.instances.specs.Collecting.{AddsFirst, is_under}
use Rattle.instances.proofs.following.add_under.Given as goal

abbrev pub invariant-loop-from : goal.invariant-loop-from
invariant-loop-from l = AddsFirst l.from (is_under l.tables l.child l.parent) l.rows l.fn.out l.out

abbrev pub decreases-loop-from : goal.decreases-loop-from
decreases-loop-from l = l.end - l.from
