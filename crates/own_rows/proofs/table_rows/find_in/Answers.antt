-- An own row, or none where it was taken out, or the table's.
use Rattle.std.proofs.Common.{sym, ◌∙◌}
use Rattle.own_rows.proofs.StandLaws.{found_gone, found_own, found_under}
use Rattle.own_rows.proofs.table_rows.find_in.Goals as goal

pub returns-in-Some : goal.returns-in-Some
returns-in-Some g c = found_own c.args.own.now _ _ _ c.rows.ensures _ c.in-Some.ensures

pub returns-then-contains_key : goal.returns-then-contains_key
returns-then-contains_key g c = found_gone c.args.own.now _ _ _ c.rows.ensures c.in-None.ensures (sym c.contains_key.ensures ∙ c.if-contains_key.true)

pub returns-else-contains_key : goal.returns-else-contains_key
returns-else-contains_key g c = found_under c.args.own.now _ _ _ c.rows.ensures _ c.in-None.ensures (sym c.contains_key.ensures ∙ c.if-contains_key.false) c.find.ensures
