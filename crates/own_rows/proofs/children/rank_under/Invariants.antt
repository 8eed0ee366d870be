-- The rank is between both places.
use Rattle.std.proofs.Common.{◌≤◌, ◌-◌}
use Rattle.std.specs.FinMap.{len}
use Rattle.table_state.specs.Tables.{table_at}
use Rattle.own_rows.specs.Ranks.{rank}
use Rattle.own_rows.proofs.children.rank_under.Given as goal

abbrev pub invariant-loop-low : goal.invariant-loop-low
invariant-loop-low g l = record {
  above : l.low ≤ rank (table_at (g.S.Scan.state l.fn.under) l.fn.table) l.fn.key;
  below : rank (table_at (g.S.Scan.state l.fn.under) l.fn.table) l.fn.key ≤ l.high;
  within : l.high ≤ len (table_at (g.S.Scan.state l.fn.under) l.fn.table);
}

abbrev pub decreases-loop-low : goal.decreases-loop-low
decreases-loop-low g l = l.high - l.low
