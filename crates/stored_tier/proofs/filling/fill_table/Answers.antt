use Rattle.std.proofs.Common.{◌≡◌, ◌∙◌, ap, arith, length, sym}
use Rattle.std.specs.FinMap.{values}
use Rattle.stored_tier.proofs.FillSteps.{all_rows, begun_rows, one_row, put_long, values_long}
use Rattle.stored_tier.proofs.filling.fill_table.Goals as goal

pub loop-at-init : goal.loop-at-init
loop-at-init c = record {
  same = begun_rows c.args.place (values c.args.rows.now) c.args.store.now c.reserve.new.self c.in_ok-reserve.ensures.same;
  room = let ok = c.in_ok-reserve.ensures.ok in let is = c.len.ensures.value in omega (arith, ok, is);
  long = ap length c.in_ok-reserve.ensures.same.layers;
}

pub loop-at-preserved : goal.loop-at-preserved
loop-at-preserved c =
    let row : c.in_ok-row.row ≡ c.row_at.result.now = c.in_ok-row.ensures in
    record {
      same = one_row c.args.place (values c.args.rows.now) c.loop-at.at c.in_ok-row.row _ c.loop-at.store c.put.new.self
          (c.row_at.ensures ∙ ap (λ r. Rattle.std.proofs.Common.Some r) (sym row)) c.loop-at.invariant.same c.put.ensures.put;
      room = let before = c.loop-at.invariant.room in let spare = c.put.ensures.spare in omega (arith, before, spare);
      long = put_long c.args.place c.in_ok-row.row c.loop-at.store c.put.new.self c.put.ensures.put ∙ c.loop-at.invariant.long;
    }

pub put-requires-clause-within : goal.put-requires-clause-within
put-requires-clause-within c = let long = c.loop-at.invariant.long in let le = c.requires in omega (arith, long, le)

pub put-requires-clause-room : goal.put-requires-clause-room
put-requires-clause-room c =
    let room = c.loop-at.invariant.room in
    let lt = c.loop-at-test.true in
    let end = c.len-at-end.ensures.value in
    omega (arith, room, lt, end)

pub returns : goal.returns
returns c =
    let past = c.loop-at-test.false in
    let end = c.len-at-end.ensures.value in
    all_rows c.args.place (values c.args.rows.now) c.loop-at.at _ c.loop-at.store (let long = values_long c.args.rows.now in omega (arith, past, end, long)) c.loop-at.invariant.same
