use Rattle.std.proofs.Common.{arith}
use Rattle.stored_tier.proofs.AnewLaws.{touched_more}
use Rattle.stored_tier.proofs.filling.touch_all.Goals as goal

pub loop-key-preserved : goal.loop-key-preserved
loop-key-preserved c =
    touched_more c.args.keys.now c.loop-key.key-index c.key-item.result c.args.store.now c.loop-key.store c.touch.new.self (omega arith) c.key-item.is
    c.loop-key.invariant c.touch.ensures.touched
