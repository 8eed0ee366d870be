-- Rows that are own ones or were taken out are passed over.
use Rattle.std.proofs.Common.{sym, ◌∙◌, arith}
use Rattle.own_rows.proofs.StandLaws.{row_within}
use Rattle.own_rows.proofs.ChildSteps.{from_at, stays_end, stays_here, stays_none, stays_past, there_is}
use Rattle.own_rows.proofs.children.next_under.Goals as goal

pub returns-in-None : goal.returns-in-None
returns-in-None g c = sym (c.loop-at.invariant ∙ stays_none _ _ _ _ _ c.in-None.ensures)

pub returns-in-None-row : goal.returns-in-None-row
returns-in-None-row g c = absurd (there_is _ c.args.own.now.live c.args.own.now.gone _ _ _ c.in-Some.ensures c.in-None-row.ensures)

pub returns-else-is_own : goal.returns-else-is_own
returns-else-is_own g c = sym (c.loop-at.invariant ∙ stays_here _ _ _ _ _ _ c.in-Some.ensures _ _ c.requires c.in-Some-row.ensures _ c.is_own.ensures c.if-is_own.false)

pub overflow_add-at : goal.overflow_add-at
overflow_add-at g c = let w = row_within _ _ c.requires _ _ c.in-Some-row.ensures in let n = c.len-count.ensures in let f = c.len-count.type_inv in omega arith

pub loop-at-smaller : goal.loop-at-smaller
loop-at-smaller g c = let le = from_at _ c.args.own.now.live c.args.own.now.gone _ _ _ c.in-Some.ensures in let t = c.loop-at-test.true in omega arith

pub loop-at-preserved : goal.loop-at-preserved
loop-at-preserved g c = c.loop-at.invariant ∙ stays_past _ _ _ _ _ _ c.in-Some.ensures _ _ c.requires c.in-Some-row.ensures _ c.is_own.ensures c.if-is_own.true

pub returns : goal.returns
returns g c = sym (c.loop-at.invariant ∙ stays_end _ _ _ _ _ _ c.len-count.ensures c.loop-at-test.false)
