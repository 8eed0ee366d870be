use Rattle.std.proofs.Common.{◌||◌, ◌∙◌, ap}
use Rattle.table_state.specs.declared.footprint.RowKey.{RowKey}
use Rattle.std.specs.FinMap.{contains_key}
use Rattle.instances.specs.Roots.{root_of}
use Rattle.outside.specs.Changes.{is_root, is_wanted}
use Rattle.backing_gate.proofs.TouchLaws.{any_all, any_more, any_none}
use Rattle.backing_gate.proofs.touching.wanted_roots.Goals as goal

pub loop-want-init : goal.loop-want-init
loop-want-init c root = any_none (λ (want : RowKey). is_root root (root_of c.args.tables.now c.args.tree.now want.table want.key)) c.args.wants.now c.new-roots.result root c.new-roots.ensures

pub loop-want-preserved : goal.loop-want-preserved
loop-want-preserved c root =
    any_more (λ (want : RowKey). is_root root (root_of c.args.tables.now c.args.tree.now want.table want.key)) c.args.wants.now c.loop-want.want-index c.want-item.result c.loop-want-test.true c.want-item.is
    (contains_key c.loop-want.roots root) (contains_key c.put_root.new.roots root) (is_wanted c.args.tables.now c.args.tree.now c.args.wants.now root) (c.loop-want.invariant root)
    (c.in_ok-put_root.ensures root ∙ ap (λ o. is_root root o || contains_key c.loop-want.roots root) c.in_ok-found.ensures)

pub returns : goal.returns
returns c root =
    any_all (λ (want : RowKey). is_root root (root_of c.args.tables.now c.args.tree.now want.table want.key)) c.args.wants.now c.loop-want.want-index c.loop-want-test.false
    (contains_key c.loop-want.roots root) (is_wanted c.args.tables.now c.args.tree.now c.args.wants.now root) (c.loop-want.invariant root)
