use Rattle.std.proofs.Common.{ap, arith, ◌∙◌}
use Rattle.std.specs.FinMap.{remove}
use Rattle.group_engine.proofs.UnloadHidden.{out_more}
use Rattle.group_engine.proofs.unload_hidden.take_out.Goals as goal

pub loop-key-preserved : goal.loop-key-preserved
loop-key-preserved c =
    out_more c.args.keys.now c.loop-key.key-index c.key-item.result c.args.hidden.now c.loop-key.hidden c.remove.new.self (omega arith) c.key-item.is
    c.loop-key.invariant (c.remove.ensures.table ∙ ap (remove c.loop-key.hidden.table) c.values.ensures) c.remove.ensures.places c.remove.ensures.spare
