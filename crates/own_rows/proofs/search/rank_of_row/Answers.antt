-- The rank stays between both places.
use Rattle.std.proofs.Common.{arith}
use Rattle.own_rows.proofs.TableLaws.{not_past, past, up_to_len}
use Rattle.own_rows.proofs.search.rank_of_row.Goals as goal

pub loop-low-init : goal.loop-low-init
loop-low-init c = record { above = omega arith; below = up_to_len _ _ _ c.len-high.ensures.value; within = omega arith; fits = c.len-high.ensures.fits }

pub loop-low-preserved-in-Less : goal.loop-low-preserved-in-Less
loop-low-preserved-in-Less c = record {
  above = past _ _ _ _ _ c.entry_at.ensures c.order_to_row.ensures c.in-Less.is;
  below = c.loop-low.invariant.below;
  within = c.loop-low.invariant.within;
  fits = c.loop-low.invariant.fits;
}

pub loop-low-preserved : goal.loop-low-preserved
loop-low-preserved c = record {
  above = c.loop-low.invariant.above;
  below = not_past _ _ _ _ _ c.entry_at.ensures c.order_to_row.ensures c.in_default.not-Less;
  within = omega arith;
  fits = let f = c.loop-low.invariant.fits in omega arith;
}
