-- The fresh rows come on top, and those that were taken out don't count.
use Rattle.std.proofs.Common.{arith}
use Rattle.own_rows.proofs.StandLaws.{len_is, len_left}
use Rattle.own_rows.proofs.table_rows.len_in.Goals as goal

pub overflow_sub-result : goal.overflow_sub-result
overflow_sub-result g c = let l = len_is c.args.own.now _ c.requires.agrees _ c.len-3.ensures.value in let b = c.len.ensures in let f = c.len-2.ensures.value in omega arith

pub returns : goal.returns
returns g c = len_left c.args.own.now _ c.requires.agrees _ _ _ c.len.ensures c.len-2.ensures.value c.len-3.ensures.value
