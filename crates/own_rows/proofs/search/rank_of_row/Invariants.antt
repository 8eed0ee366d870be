-- The rank is between both places.
use Rattle.std.proofs.Common.{◌<◌, ◌≤◌, ◌-◌, ◌^◌}
use Rattle.std.specs.FinMap.{len}
use Rattle.table_state.specs.indexed_rows.specs.Rows.{key_of}
use Rattle.own_rows.specs.Ranks.{rank}
use Rattle.own_rows.proofs.search.rank_of_row.Given as goal

abbrev pub invariant-loop-low : goal.invariant-loop-low
invariant-loop-low l = record {
  above : l.low ≤ rank l.fn.rows (key_of l.fn.places l.fn.row);
  below : rank l.fn.rows (key_of l.fn.places l.fn.row) ≤ l.high;
  within : l.high ≤ len l.fn.rows;
  fits : l.high < 2 ^ 63;
}

abbrev pub decreases-loop-low : goal.decreases-loop-low
decreases-loop-low l = l.high - l.low
