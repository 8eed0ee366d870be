use Rattle.std.proofs.Common.{length, ap, ◌∙◌, arith}
use Rattle.group_store.specs.Stores.{put_tables}
use Rattle.group_store.proofs.StoreLaws.{count_less, layers_put, table_less, table_more}
use Rattle.group_store.proofs.store.Store.put_from.Goals as goal

pub loop-rows-preserved : goal.loop-rows-preserved
loop-rows-preserved c =
    let rest = c.loop-rows.rows-iterator.rest.items in
    let later = c.next.new.self.rest.items in
    let rows = c.in-Some.rows in
    let place = c.loop-rows.place in
    let is = c.in-Some.ensures.steps.0 in
    let less = table_less place rest later rows is c.args.self.now c.loop-rows.self c.put_rows.new.self in
    let count = count_less place rest later rows is c.args.self.now c.loop-rows.self c.put_rows.new.self in
    let within = c.loop-rows.invariant.within in
    let fits = c.loop-rows.invariant.fits in
    let room = c.loop-rows.invariant.room in
    let spare = c.loop-rows.invariant.spare in
    let more = c.put_rows.ensures.spare in
    record {
      done = table_more place rest later rows is (put_tables c.args.place c.args.tables.items c.args.self.now) c.loop-rows.self c.put_rows.new.self c.loop-rows.invariant.done c.put_rows.ensures.put;
      layers = ap length (c.put_rows.ensures.put.layers ∙ layers_put place rows c.loop-rows.self) ∙ c.loop-rows.invariant.layers;
      within = omega (arith, less, within);
      fits = omega (arith, less, fits);
      room = omega (arith, count, room, more);
      spare = omega (arith, count, spare, more);
    }

pub put_rows-requires-clause-within : goal.put_rows-requires-clause-within
put_rows-requires-clause-within c =
    let rest = c.loop-rows.rows-iterator.rest.items in
    let less = table_less c.loop-rows.place rest c.next.new.self.rest.items c.in-Some.rows c.in-Some.ensures.steps.0 c.args.self.now c.loop-rows.self c.loop-rows.self in
    omega (arith, less, c.loop-rows.invariant.within, c.loop-rows.invariant.layers)

pub put_rows-requires-clause-room : goal.put_rows-requires-clause-room
put_rows-requires-clause-room c =
    let rest = c.loop-rows.rows-iterator.rest.items in
    let count = count_less c.loop-rows.place rest c.next.new.self.rest.items c.in-Some.rows c.in-Some.ensures.steps.0 c.args.self.now c.loop-rows.self c.loop-rows.self in
    omega (arith, count, c.loop-rows.invariant.room)

pub overflow_add-place : goal.overflow_add-place
overflow_add-place c =
    let rest = c.loop-rows.rows-iterator.rest.items in
    let less = table_less c.loop-rows.place rest c.next.new.self.rest.items c.in-Some.rows c.in-Some.ensures.steps.0 c.args.self.now c.loop-rows.self c.loop-rows.self in
    let fits = c.loop-rows.invariant.fits in
    omega (arith, less, fits)
