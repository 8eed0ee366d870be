use Rattle.std.proofs.Common.{◌≤◌, ◌<◌, length, slice_get, Fits, w64, rules, sym, arith}
use Rattle.std.specs.FinMap as fm
use Rattle.std.proofs.lemmas.List.{length-map}
use Rattle.table_state.specs.Tables.{table_at}
use Rattle.table_state.specs.ScanChildren.{refers_to}
use Rattle.evaluator.specs.Cascades.{deleted}
use Rattle.evaluator.proofs.CapLaws.{on_ok}
use Rattle.evaluator.proofs.CascadeLaws.{deleted_last, no_row}
use Rattle.evaluator.proofs.ChildSteps.{child_end, child_more, child_none, place_behind, place_within}
use Rattle.evaluator.proofs.cascade.+cascade.Goals as goal
use Rattle.evaluator.proofs.cascade.+cascade.Goals.{delete_children-in-None-row, delete_children-in-Some-row+in_ok-delete_row-in-Some-row}

pub delete_children-returns-in-None : goal.delete_children-returns-in-None
delete_children-returns-in-None g t c =
    let s = g.S.Scan.state c.args.scan.now in
    child_none (deleted c.args.depth s c.args.child) (refers_to c.args.key.now (slice_get s.schema c.args.child.0)) (fm.values (table_at s c.args.child)) c.loop-from.from (sym c.in-None.ensures) c.args.out.now c.loop-from.out c.loop-from.invariant

pub delete_children-overflow_add-from : goal.delete_children-overflow_add-from
delete_children-overflow_add-from g t c =
    let s = g.S.Scan.state c.args.scan.now in
    let within = place_within (refers_to c.args.key.now (slice_get s.schema c.args.child.0)) (fm.values (table_at s c.args.child)) c.loop-from.from c.in-Some.place (sym c.in-Some.ensures) in
    let fits : Fits w64 c.len-end.result = search rules in
    omega (arith, within, fits, c.len-end.ensures, length-map (fm.entries (table_at s c.args.child)) (λ x. x.1), fm.len-entries (table_at s c.args.child))

pub delete_children-loop-from-smaller : goal.delete_children-loop-from-smaller
delete_children-loop-from-smaller g t c =
    let s = g.S.Scan.state c.args.scan.now in
    let behind = place_behind (refers_to c.args.key.now (slice_get s.schema c.args.child.0)) (fm.values (table_at s c.args.child)) c.loop-from.from c.in-Some.place (sym c.in-Some.ensures) in
    omega (arith, behind, c.loop-from-test.true)

pub delete_children-loop-from-preserved : goal.delete_children-loop-from-preserved
delete_children-loop-from-preserved g t c =
    let s = g.S.Scan.state c.args.scan.now in
    let f = deleted c.args.depth s c.args.child in
    let p = refers_to c.args.key.now (slice_get s.schema c.args.child.0) in
    let xs = fm.values (table_at s c.args.child) in
    let within = place_within (refers_to c.args.key.now (slice_get s.schema c.args.child.0)) (fm.values (table_at s c.args.child)) c.loop-from.from c.in-Some.place (sym c.in-Some.ensures) in
    let below : c.in-Some.place < c.len-end.result = omega (arith, within, c.len-end.ensures, length-map (fm.entries (table_at s c.args.child)) (λ x. x.1), fm.len-entries (table_at s c.args.child)) in
    elim c.match-row.branch [
      | delete_children-in-None-row w ↦ absurd (no_row _ _ _ c.len-end.ensures below w.in-None-row.ensures)
      | delete_children-in-Some-row+in_ok-delete_row-in-Some-row w ↦ child_more (deleted c.args.depth s c.args.child) (refers_to c.args.key.now (slice_get s.schema c.args.child.0)) (fm.values (table_at s c.args.child)) c.loop-from.from c.in-Some.place (sym c.in-Some.ensures) w.in-Some-row.row.now (sym w.in-Some-row.ensures) c.args.out.now c.loop-from.out c.match-row.out c.loop-from.invariant (search rules)
    ]

pub delete_children-returns : goal.delete_children-returns
delete_children-returns g t c =
    let s = g.S.Scan.state c.args.scan.now in
    let past : length (fm.values (table_at s c.args.child)) ≤ c.loop-from.from = omega (arith, c.loop-from-test.false, c.len-end.ensures, length-map (fm.entries (table_at s c.args.child)) (λ x. x.1), fm.len-entries (table_at s c.args.child)) in
    child_end (deleted c.args.depth s c.args.child) (refers_to c.args.key.now (slice_get s.schema c.args.child.0)) (fm.values (table_at s c.args.child)) c.loop-from.from past c.args.out.now c.loop-from.out c.loop-from.invariant

pub delete_row-returns : goal.delete_row-returns
delete_row-returns g t c =
    on_ok c.push_deletion.result _ _ (λ last. deleted_last c.args.depth (g.S.Scan.state c.args.scan.now) c.args.table c.args.row.now c.as_slice-child-items.result.now c.loop-child.child-index c.args.out.now c.loop-child.out c.push_deletion.new.out
    c.if-depth-eq0.false (search rules) c.loop-child-test.false c.loop-child.invariant last) c.push_deletion.ensures
