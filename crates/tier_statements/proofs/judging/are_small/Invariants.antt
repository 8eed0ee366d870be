-- The tables so far are small.
use Rattle.std.proofs.Common.{◌<◌, ◌^◌}
use Rattle.std.specs.FinMap.{len}
use Rattle.tier_base.specs.declared.number.TableId.{TableId}
use Rattle.table_state.specs.Tables.{table_at}
use Rattle.tier_statements.proofs.judging.are_small.Given as goal

abbrev pub invariant-loop-place : goal.invariant-loop-place
invariant-loop-place g l = (t : TableId) → t.0 < l.place → len (table_at (g.S.Scan.state l.scan) t) < 2 ^ 62
