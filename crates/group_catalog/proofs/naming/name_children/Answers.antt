-- One table more has its child.
use Rattle.std.proofs.Common.{◌≡◌, ◌++◌, ◌∷◌, [], arith}
use Rattle.std.proofs.lemmas.Grind.{common_steps}
use Rattle.group_catalog.proofs.TreeLaws.{child_more}
use Rattle.group_catalog.proofs.naming.name_children.Goals as goal

pub loop-table-preserved : goal.loop-table-preserved
loop-table-preserved c =
    let more : c.push.new.self.items ≡ c.loop-table.children.items ++ c.in_ok-child.child ∷ [] = grind (arith, common_steps) in
    record {
      told = grind (arith, common_steps);
      children = child_more c.args.tables.now c.loop-table.table-index c.table-item.result c.loop-table.children.items c.push.new.self.items c.in_ok-child.child c.loop-table-test.true c.table-item.is c.loop-table.invariant.children c.in_ok-child.ensures.child more;
      unsound = grind (arith, common_steps);
      unheld = grind (arith, common_steps);
    }
