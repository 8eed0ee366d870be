-- The key of the place is between.
use Rattle.std.proofs.Common.{◌≤◌, ◌-◌}
use Rattle.std.specs.FinMap.{len}
use Rattle.table_state.specs.Tables.{table_at}
use Rattle.own_rows.specs.Seeking.{Between}
use Rattle.own_rows.proofs.seeking.seek.Given as goal

abbrev pub invariant-loop-low : goal.invariant-loop-low
invariant-loop-low g l = record {
  between : Between l.fn.own.live l.fn.own.gone (table_at (g.S.Scan.state l.fn.under) l.fn.table) l.fn.place l.low l.high;
  within : l.high ≤ len (table_at (g.S.Scan.state l.fn.under) l.fn.table);
}

abbrev pub decreases-loop-low : goal.decreases-loop-low
decreases-loop-low g l = l.high - l.low
