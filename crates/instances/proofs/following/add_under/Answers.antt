use Rattle.std.proofs.Common.{◌≡◌, ◌<◌, ◌∙◌, Bool, Fits, List, None, Option, Some, arith, rules, slice_get, sym, true, w64}
use Rattle.expressions.specs.row_types.specs.declared.value.Value.{Value}
use Rattle.table_state.specs.Children.{refers_to}
use Rattle.table_state.specs.Tables.{table_at}
use Rattle.instances.specs.Collecting.{is_under}
use Rattle.instances.specs.Views.{selects}
use Rattle.instances.proofs.FollowLaws.{adds_one, adds_past, adds_skip, at_rows, by_filter, next_one, under_parent}
use Rattle.instances.proofs.following.add_under.Goals as goal
use Rattle.instances.proofs.following.add_under.Goals.{then-selects+in_ok-add_copy-in-Some, else-selects}

pub returns-in-None : goal.returns-in-None
returns-in-None c =
    let s = c.args.tables.now in
    adds_past (refers_to c.args.parent.now (slice_get s.schema c.args.child.now.table.0)) (is_under s c.args.child.now c.args.parent.now) c.args.rows.now c.args.out.now
    (λ row good. under_parent (refers_to c.args.parent.now (slice_get s.schema c.args.child.now.table.0) row) (selects c.args.child.now.filter row) good)
    c.loop-from.from c.loop-from.out c.loop-from.invariant (at_rows (refers_to c.args.parent.now (slice_get s.schema c.args.child.now.table.0)) c.loop-from.from None c.args.rows.now (table_at s c.args.child.now.table) c.requires c.in-None.ensures)

pub entry_at-entry-requires : goal.entry_at-entry-requires
entry_at-entry-requires c =
    let s = c.args.tables.now in
    let n = next_one (refers_to c.args.parent.now (slice_get s.schema c.args.child.now.table.0)) c.args.rows.now c.loop-from.from c.in-Some.place (at_rows (refers_to c.args.parent.now (slice_get s.schema c.args.child.now.table.0)) c.loop-from.from (Some c.in-Some.place) c.args.rows.now (table_at s c.args.child.now.table) c.requires c.in-Some.ensures) in
    n.within

pub overflow_add-from : goal.overflow_add-from
overflow_add-from c =
    let s = c.args.tables.now in
    let n = next_one (refers_to c.args.parent.now (slice_get s.schema c.args.child.now.table.0)) c.args.rows.now c.loop-from.from c.in-Some.place (at_rows (refers_to c.args.parent.now (slice_get s.schema c.args.child.now.table.0)) c.loop-from.from (Some c.in-Some.place) c.args.rows.now (table_at s c.args.child.now.table) c.requires c.in-Some.ensures) in
    let fits : Fits w64 c.len-end.result = search rules in
    omega (arith, n.within, fits, c.len-end.ensures.value)

pub loop-from-smaller : goal.loop-from-smaller
loop-from-smaller c =
    let s = c.args.tables.now in
    let n = next_one (refers_to c.args.parent.now (slice_get s.schema c.args.child.now.table.0)) c.args.rows.now c.loop-from.from c.in-Some.place (at_rows (refers_to c.args.parent.now (slice_get s.schema c.args.child.now.table.0)) c.loop-from.from (Some c.in-Some.place) c.args.rows.now (table_at s c.args.child.now.table) c.requires c.in-Some.ensures) in
    omega (arith, n.behind, c.loop-from-test.true)

pub loop-from-preserved : goal.loop-from-preserved
loop-from-preserved c =
    let s = c.args.tables.now in
    let under : (row : List Value) → is_under s c.args.child.now c.args.parent.now row ≡ true → refers_to c.args.parent.now (slice_get s.schema c.args.child.now.table.0) row ≡ true =
    λ row good. under_parent (refers_to c.args.parent.now (slice_get s.schema c.args.child.now.table.0) row) (selects c.args.child.now.filter row) good in
    let n = next_one (refers_to c.args.parent.now (slice_get s.schema c.args.child.now.table.0)) c.args.rows.now c.loop-from.from c.in-Some.place (at_rows (refers_to c.args.parent.now (slice_get s.schema c.args.child.now.table.0)) c.loop-from.from (Some c.in-Some.place) c.args.rows.now (table_at s c.args.child.now.table) c.requires c.in-Some.ensures) in
    let passes = by_filter (refers_to c.args.parent.now (slice_get s.schema c.args.child.now.table.0) c.entry_at-entry.result.now.1) (selects c.args.child.now.filter c.entry_at-entry.result.now.1) (n.passes c.entry_at-entry.result.now.0 c.entry_at-entry.result.now.1 c.entry_at-entry.ensures) in
    elim c.if-selects.branch [
      | then-selects+in_ok-add_copy-in-Some w ↦ adds_one (refers_to c.args.parent.now (slice_get s.schema c.args.child.now.table.0)) (is_under s c.args.child.now c.args.parent.now) c.args.rows.now c.args.out.now under c.loop-from.from c.in-Some.place c.loop-from.out c.loop-from.invariant n c.entry_at-entry.result.now c.entry_at-entry.ensures c.if-selects.out (passes ∙ sym c.selects.ensures ∙ w.if-selects.true) (search rules)
      | else-selects w ↦ adds_skip (refers_to c.args.parent.now (slice_get s.schema c.args.child.now.table.0)) (is_under s c.args.child.now c.args.parent.now) c.args.rows.now c.args.out.now under c.loop-from.from c.in-Some.place c.loop-from.out c.loop-from.invariant n c.entry_at-entry.result.now c.entry_at-entry.ensures c.if-selects.out (passes ∙ sym c.selects.ensures ∙ w.if-selects.false) w.out-is
    ]
