use Rattle.backing_gate.proofs.TouchLaws.{all_more}
use Rattle.backing_gate.proofs.touching.all_touched.Goals as goal

pub loop-tree-preserved : goal.loop-tree-preserved
loop-tree-preserved c =
    all_more c.args.tables.now c.args.log.now c.args.wants.now c.args.trees.now c.loop-tree.tree-index c.tree-item.result c.loop-tree.out.items c.push.new.self.items c.in_ok-touched.touched
    c.loop-tree-test.true c.tree-item.is c.loop-tree.invariant c.in_ok-touched.ensures c.in_ok-push.ensures.items
