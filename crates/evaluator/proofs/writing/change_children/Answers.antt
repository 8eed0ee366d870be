use Rattle.std.proofs.Common.{◌<◌, Fits, w64, slice_get, rules, sym, arith}
use Rattle.std.specs.FinMap.{entries, len-entries, values}
use Rattle.std.proofs.lemmas.List.{length-map}
use Rattle.table_state.specs.Tables.{table_at}
use Rattle.table_state.specs.ScanChildren.{refers_to}
use Rattle.evaluator.specs.Capping.{put}
use Rattle.evaluator.specs.Writes.{done_on}
use Rattle.evaluator.proofs.CascadeLaws.{all_rows, no_row}
use Rattle.evaluator.proofs.ChildSteps.{place_behind, place_within, skipped, skipped_all}
use Rattle.evaluator.proofs.RuleLaws.{added_end, added_step, added_stop}
use Rattle.evaluator.proofs.writing.change_children.Goals as goal
use Rattle.evaluator.proofs.writing.change_children.Goals.{in-None-row, in-Some-row+in_ok-change_row-in-Some-row}

pub returns-in-None : goal.returns-in-None
returns-in-None g c =
    let s = g.S.Scan.state c.args.scan.now in
    skipped_all put (done_on s c.args.table c.args.def.now c.args.action.now) (refers_to c.args.key.now (slice_get s.schema c.args.table.0)) (values (table_at s c.args.table)) c.requires c.loop-from.from c.args.out.now c.loop-from.out c.loop-from.invariant (sym c.in-None.ensures) tt

pub overflow_add-from : goal.overflow_add-from
overflow_add-from g c =
    let s = g.S.Scan.state c.args.scan.now in
    let within = place_within (refers_to c.args.key.now (slice_get s.schema c.args.table.0)) (values (table_at s c.args.table)) c.loop-from.from c.in-Some.place (sym c.in-Some.ensures) in
    let fits : Fits w64 c.len-end.result = search rules in
    omega (arith, within, fits, c.len-end.ensures, length-map (entries (table_at s c.args.table)) (λ x. x.1), len-entries (table_at s c.args.table))

pub loop-from-smaller : goal.loop-from-smaller
loop-from-smaller g c =
    let s = g.S.Scan.state c.args.scan.now in
    let behind = place_behind (refers_to c.args.key.now (slice_get s.schema c.args.table.0)) (values (table_at s c.args.table)) c.loop-from.from c.in-Some.place (sym c.in-Some.ensures) in
    omega (arith, behind, c.loop-from-test.true)

pub returns : goal.returns
returns g c =
    let s = g.S.Scan.state c.args.scan.now in
    added_end put (done_on s c.args.table c.args.def.now c.args.action.now) (values (table_at s c.args.table)) c.loop-from.from c.args.out.now c.loop-from.out
    (all_rows (table_at s c.args.table) c.loop-from.from c.len-end.result c.len-end.ensures c.loop-from-test.false) c.loop-from.invariant tt

pub returns-in_err-change_row-in-Some-row : goal.returns-in_err-change_row-in-Some-row
returns-in_err-change_row-in-Some-row g c =
    let s = g.S.Scan.state c.args.scan.now in
    let e = added_stop put (done_on s c.args.table c.args.def.now c.args.action.now) (values (table_at s c.args.table)) c.in-Some.place c.in-Some-row.row.now c.args.out.now c.loop-from.out c.change_row.new.out (sym c.in-Some-row.ensures)
    (skipped put (done_on s c.args.table c.args.def.now c.args.action.now) (refers_to c.args.key.now (slice_get s.schema c.args.table.0)) (values (table_at s c.args.table)) c.requires c.loop-from.from c.args.out.now c.loop-from.out c.loop-from.invariant c.in-Some.place (sym c.in-Some.ensures)) _ c.in_err-change_row-in-Some-row.ensures in
    search (rules, e)

pub loop-from-preserved : goal.loop-from-preserved
loop-from-preserved g c =
    let s = g.S.Scan.state c.args.scan.now in
    let within = place_within (refers_to c.args.key.now (slice_get s.schema c.args.table.0)) (values (table_at s c.args.table)) c.loop-from.from c.in-Some.place (sym c.in-Some.ensures) in
    let below : c.in-Some.place < c.len-end.result = omega (arith, within, c.len-end.ensures, length-map (entries (table_at s c.args.table)) (λ x. x.1), len-entries (table_at s c.args.table)) in
    elim c.match-row.branch [
      | in-None-row w ↦ absurd (no_row _ _ _ c.len-end.ensures below w.in-None-row.ensures)
      | in-Some-row+in_ok-change_row-in-Some-row w ↦ added_step put (done_on s c.args.table c.args.def.now c.args.action.now) (values (table_at s c.args.table)) c.in-Some.place w.in-Some-row.row.now c.args.out.now c.loop-from.out c.match-row.out (sym w.in-Some-row.ensures)
          (skipped put (done_on s c.args.table c.args.def.now c.args.action.now) (refers_to c.args.key.now (slice_get s.schema c.args.table.0)) (values (table_at s c.args.table)) c.requires c.loop-from.from c.args.out.now c.loop-from.out c.loop-from.invariant c.in-Some.place (sym c.in-Some.ensures)) tt (search rules)
    ]
