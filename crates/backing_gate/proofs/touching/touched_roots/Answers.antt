use Rattle.std.proofs.Common.{◌||◌, ap}
use Rattle.std.specs.FinMap.{contains_key}
use Rattle.outside.specs.Changes.{has_changed, is_touched, touches}
use Rattle.backing_gate.proofs.TouchLaws.{any_all, any_more}
use Rattle.backing_gate.proofs.touching.touched_roots.Goals as goal

pub loop-change-init : goal.loop-change-init
loop-change-init c root = ap (λ b. has_changed c.args.tables.now c.args.tree.now c.args.log.now root || b) (c.in_ok-roots.ensures root)

pub loop-change-preserved : goal.loop-change-preserved
loop-change-preserved c root =
    any_more (touches c.args.tables.now c.args.tree.now root) c.args.log.now c.loop-change.change-index c.change-item.result c.loop-change-test.true c.change-item.is (contains_key c.loop-change.roots root)
    (contains_key c.add_touched.new.roots root) (is_touched c.args.tables.now c.args.tree.now c.args.log.now c.args.wants.now root) (c.loop-change.invariant root) (c.in_ok-add_touched.ensures root)

pub returns : goal.returns
returns c root =
    any_all (touches c.args.tables.now c.args.tree.now root) c.args.log.now c.loop-change.change-index c.loop-change-test.false
    (contains_key c.loop-change.roots root) (is_touched c.args.tables.now c.args.tree.now c.args.log.now c.args.wants.now root) (c.loop-change.invariant root)
