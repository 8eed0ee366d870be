use Rattle.std.proofs.Common.{length, ap, ◌∙◌, arith}
use Rattle.group_store.specs.Stores.{put_rows}
use Rattle.group_store.proofs.StoreLaws.{row_less, row_more}
use Rattle.group_store.proofs.store.Store.put_rows.Goals as goal

pub loop-row-preserved : goal.loop-row-preserved
loop-row-preserved c =
    let rest = c.loop-row.row-iterator.rest.items in
    let later = c.next.new.self.rest.items in
    let is = c.in-Some.ensures.steps.0 in
    let less = row_less c.args.place rest later c.in-Some.row is c.args.self.now c.loop-row.self c.put.new.self in
    let room = c.loop-row.invariant.room in
    let spare = c.loop-row.invariant.spare in
    let more = c.put.ensures.spare in
    record {
      done = row_more c.args.place rest later c.in-Some.row is (put_rows c.args.place c.args.rows c.args.self.now) c.loop-row.self c.put.new.self c.loop-row.invariant.done c.put.ensures.put;
      layers = ap length c.put.ensures.put.layers ∙ c.loop-row.invariant.layers;
      room = omega (arith, less, room, more);
      spare = omega (arith, less, spare, more);
    }
