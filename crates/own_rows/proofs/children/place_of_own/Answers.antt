-- What is counted is the rank of the key.
use Rattle.std.proofs.Common.{arith}
use Rattle.table_state.specs.Tables.{table_at}
use Rattle.own_rows.proofs.RankLaws.{rank_within}
use Rattle.own_rows.proofs.ChildSteps.{own_fits, own_place, own_place_at}
use Rattle.own_rows.proofs.children.place_of_own.Goals as goal

pub overflow_add-result : goal.overflow_add-result
overflow_add-result g c = let u = c.rank_under.ensures in let f = c.rank_of_key-fresh.ensures.fits in let s = c.requires.small in let w = rank_within (table_at (g.S.Scan.state c.args.under.now) c.args.table) c.entry_at.result.now.0 in omega arith

pub overflow_sub-result : goal.overflow_sub-result
overflow_sub-result g c = own_fits c.args.own.now _ c.requires.agrees _ _ _ _ c.rank_under.ensures c.rank_of_key-fresh.ensures.rank c.rank_of_key-gone.ensures.rank

pub returns : goal.returns
returns g c = λ entry at. own_place_at c.args.own.now _ _ _ _ entry _ c.rows.ensures c.entry_at.ensures at (own_place c.args.own.now _ c.requires.agrees _ _ _ _ c.rank_under.ensures c.rank_of_key-fresh.ensures.rank c.rank_of_key-gone.ensures.rank)
