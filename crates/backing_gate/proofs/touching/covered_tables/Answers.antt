use Rattle.std.specs.List.{flat_map}
use Rattle.outside.specs.Changes.{tree_tables}
use Rattle.backing_gate.proofs.TouchLaws.{flat_more}
use Rattle.backing_gate.proofs.touching.covered_tables.Goals as goal

pub loop-tree-preserved : goal.loop-tree-preserved
loop-tree-preserved c =
    flat_more tree_tables c.args.trees.now c.loop-tree.tree-index c.tree-item.result c.loop-tree.tables.items c.add_tables.new.tables.items (flat_map tree_tables c.args.trees.now)
    c.loop-tree-test.true c.tree-item.is c.loop-tree.invariant c.in_ok-add_tables.ensures
