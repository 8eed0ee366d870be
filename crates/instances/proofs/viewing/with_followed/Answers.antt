use Rattle.std.proofs.Common.{[], ◌∷◌, rules}
use Rattle.instances.specs.Views.{with_children}
use Rattle.instances.proofs.ChildLaws.{one_more}
use Rattle.instances.proofs.viewing.with_followed.Goals as goal

pub loop-child-preserved : goal.loop-child-preserved
loop-child-preserved c =
    one_more c.args.tables.now c.args.children.now c.loop-child.child-index c.child-item.result c.loop-child.kept.items c.push-in-loop-child.new.self.items (with_children c.args.tables.now c.args.children.now (c.args.root ∷ [])) c.in_ok-rows.rows
    c.loop-child-test.true c.child-item.is c.loop-child.invariant (search rules) c.in_ok-push-2.ensures.items
