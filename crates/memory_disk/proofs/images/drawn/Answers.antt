use Rattle.std.proofs.Common.{arith, refl}
use Rattle.memory_disk.specs.Picking.{drawn}
use Rattle.memory_disk.proofs.PickLaws.{draw_step}
use Rattle.memory_disk.proofs.images.drawn.Goals as goal

pub loop-done-preserved : goal.loop-done-preserved
loop-done-preserved c =
    let l = c.loop-done in
    record {
      size = omega (arith, c.push_reserved.ensures.len, c.push_reserved.new.self.ok.0, l.bytes.ok.0, l.invariant.size);
      within = omega (arith, c.loop-done-test.true);
      room = omega (arith, c.push_reserved.ensures.capacity, l.invariant.room);
      so_far = draw_step l.x c.next_draw-x.result c.args.count l.done _ l.bytes.items c.push_reserved.new.self.items (drawn c.args.begun c.args.count) c.loop-done-test.true c.next_draw-x.ensures refl c.push_reserved.ensures.items l.invariant.so_far;
    }
