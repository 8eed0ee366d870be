-- What the rows before this place added.
use Rattle.std.proofs.Common.{◌-◌}
use Rattle.std.specs.FinMap.{values}
use Rattle.table_state.specs.Tables.{table_at}
use Rattle.evaluator.specs.Capping.{put}
use Rattle.evaluator.specs.Rules.{TakenBefore}
use Rattle.evaluator.specs.Writes.{done_on}
use Rattle.evaluator.proofs.writing.change_children.Given as goal

abbrev pub invariant-loop-from : goal.invariant-loop-from
invariant-loop-from g l =
    TakenBefore put (done_on (g.S.Scan.state l.fn.scan) l.fn.table l.fn.def l.fn.action) (values (table_at (g.S.Scan.state l.fn.scan) l.fn.table)) l.from l.fn.out l.out

abbrev pub decreases-loop-from : goal.decreases-loop-from
decreases-loop-from g l = l.end - l.from
