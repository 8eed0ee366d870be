-- What is counted is the rank of the key.
use Rattle.std.proofs.Common.{arith}
use Rattle.own_rows.proofs.StandLaws.{row_within}
use Rattle.own_rows.proofs.ChildSteps.{fresh_fits, fresh_place, never_there}
use Rattle.own_rows.proofs.children.place_of_under.Goals as goal

pub overflow_add-result : goal.overflow_add-result
overflow_add-result g c = let f = c.rank_of_row-fresh.ensures.fits in let s = c.requires.small in let w = row_within _ _ c.requires.keyed _ _ c.in-Some.ensures in omega arith

pub overflow_sub-result : goal.overflow_sub-result
overflow_sub-result g c = fresh_fits _ _ c.requires.keyed _ _ c.in-Some.ensures c.args.own.now c.requires.agrees _ _ c.rank_of_row-fresh.ensures.rank c.rank_of_row-gone.ensures.rank

pub returns-in-None : goal.returns-in-None
returns-in-None g c = λ entry at. absurd (never_there _ _ entry c.in-None.ensures at)

pub returns-in-Some : goal.returns-in-Some
returns-in-Some g c = λ entry at. fresh_place _ _ c.requires.keyed _ _ c.in-Some.ensures c.args.own.now c.requires.agrees _ _ c.rank_of_row-fresh.ensures.rank c.rank_of_row-gone.ensures.rank entry at
