-- The rank stays between both places.
use Rattle.std.proofs.Common.{arith}
use Rattle.own_rows.proofs.TableLaws.{up_to_len}
use Rattle.own_rows.proofs.StandLaws.{no_row_past, row_within}
use Rattle.own_rows.proofs.ChildSteps.{key_past, key_up_to}
use Rattle.own_rows.proofs.children.rank_under.Goals as goal

pub loop-low-init : goal.loop-low-init
loop-low-init g c = record { above = omega arith; below = up_to_len _ _ _ c.len-high.ensures; within = let n = c.len-high.ensures in omega arith }

pub returns-in-None : goal.returns-in-None
returns-in-None g c = absurd (no_row_past _ _ c.in-None.ensures (let t = c.loop-low-test.true in let w = c.loop-low.invariant.within in omega arith))

pub loop-low-preserved-in-Greater : goal.loop-low-preserved-in-Greater
loop-low-preserved-in-Greater g c = record {
  above = key_past _ _ c.requires _ _ c.in-Some.ensures _ _ c.order_to_row.ensures c.in-Greater.is;
  below = c.loop-low.invariant.below;
  within = c.loop-low.invariant.within;
}

pub loop-low-preserved : goal.loop-low-preserved
loop-low-preserved g c = record {
  above = c.loop-low.invariant.above;
  below = key_up_to _ _ c.requires _ _ c.in-Some.ensures _ _ c.order_to_row.ensures c.in_default.not-Greater;
  within = let r = row_within _ _ c.requires _ _ c.in-Some.ensures in omega arith;
}
