-- What the rows so far added.
use Rattle.std.specs.FinMap.{values}
use Rattle.table_state.specs.Tables.{table_at}
use Rattle.evaluator.specs.Capping.{put}
use Rattle.evaluator.specs.Rules.{TakenBefore}
use Rattle.evaluator.specs.Writes.{done_on}
use Rattle.evaluator.proofs.writing.change_all.Given as goal

abbrev pub invariant-loop-place : goal.invariant-loop-place
invariant-loop-place g l =
    TakenBefore put (done_on (g.S.Scan.state l.fn.scan) l.fn.table l.fn.def l.fn.action) (values (table_at (g.S.Scan.state l.fn.scan) l.fn.table)) l.place l.fn.out l.out
