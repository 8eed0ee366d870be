-- What is counted fits.
use Rattle.std.proofs.Common.{arith}
use Rattle.own_rows.proofs.seeking.place_left.Goals as goal

pub overflow_add-result : goal.overflow_add-result
overflow_add-result c = let f = c.rank_of_row-fresh.ensures.fits in let s = c.requires.small in omega arith

pub returns : goal.returns
returns c = omega (arith, c.rank_of_row-fresh.ensures.rank, c.rank_of_row-gone.ensures.rank)
