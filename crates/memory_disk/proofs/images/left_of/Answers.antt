use Rattle.memory_disk.specs.Picking.{certain_chosen}
use Rattle.memory_disk.proofs.PickLaws.{choose_step}
use Rattle.memory_disk.proofs.images.left_of.Goals as goal

pub loop-call-preserved : goal.loop-call-preserved
loop-call-preserved c = choose_step c.args.slot c.args.pick c.args.calls.now c.loop-call.call-index c.call-item.result c.loop-call.trace (certain_chosen c.args.base.now) c.follow.new.self c.loop-call-test.true c.call-item.is c.in_ok-follow.ensures c.loop-call.invariant
