use Rattle.std.proofs.Common.{◌≡◌, ◌++◌, ◌∷◌, [], refl, rules}
use Rattle.changed_sets.proofs.CopyLaws.{alike_next}
use Rattle.changed_sets.proofs.ListSteps.{found}
use Rattle.changed_sets.proofs.copies.copied_children.Goals as goal

pub loop-child-preserved : goal.loop-child-preserved
loop-child-preserved c =
    let pushed : c.push.new.self.items ≡ c.loop-child.copy.items ++ record { table = c.child-item.result.table; filter = c.in_ok-filter.filter; parent = c.child-item.result.parent } ∷ [] = first_of (search rules, cc) in
    alike_next c.args.children.now c.loop-child.copy.items c.push.new.self.items c.loop-child.child-index c.child-item.result _ c.loop-child.invariant
    (found c.args.children.now c.loop-child.child-index c.child-item.result c.loop-child-test.true c.child-item.is) pushed
    (record { table = refl; parent = refl; filter = c.in_ok-filter.ensures })
