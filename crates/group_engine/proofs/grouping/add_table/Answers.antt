use Rattle.std.proofs.Common.{◌≡◌, ◌+◌, ◌∙◌, List, OnOk, ap, get_or, length, subst, sym}
use Rattle.instances.specs.declared.tree.Child.{Child}
use Rattle.group_store.specs.Keeping.{layer_for, primary_of}
use Rattle.group_store.specs.Shown.{foreign_key_of}
use Rattle.group_store.specs.Stores.{AddsChild}
use Rattle.stored_tier.specs.Grouping.{IsPartFor}
use Rattle.group_engine.proofs.GroupingLaws.{got, key_above, on_ok, part_more}
use Rattle.group_engine.proofs.grouping.add_table.Goals as goal

pub add_child-requires-clause-long : goal.add_child-requires-clause-long
add_child-requires-clause-long c =
    sym c.len.ensures ∙ c.if-len-key_len.true ∙ c.key_len.ensures
    ∙ sym (ap length (key_above c.args.schema.now c.args.tree.now c.args.number c.index-as_slice-number.result.parent c.in-Some.above c.args.store.now
    c.requires.part c.if-parent-number.true (sym c.table_of.ensures ∙ c.in-Some.is)))

pub returns-in-Some : goal.returns-in-Some
returns-in-Some c =
    on_ok c.add_child.result
    (AddsChild c.args.store.now c.add_child.new.self (layer_for c.args.schema.now c.index-as_slice-number.result))
    (IsPartFor c.args.schema.now c.args.tree.now (c.args.number + 1) c.add_child.new.self)
    (part_more c.args.schema.now c.args.tree.now c.args.number c.index-as_slice-number.result c.args.store.now c.add_child.new.self
    (got c.args.tree.now.children c.args.number c.index-as_slice-number.result c.requires.within is) c.requires.part)
    (subst (λ layer. OnOk c.add_child.result (AddsChild c.args.store.now c.add_child.new.self layer)) same c.add_child.ensures.ok)
  where
    is : c.index-as_slice-number.result ≡ get_or c.args.tree.now.children c.args.number c.index-as_slice-number.result
    is = c.index-as_slice-number.is ∙ ap (λ (xs : List Child). get_or xs c.args.number c.index-as_slice-number.result) c.as_slice.ensures

    same : record { table = c.index-as_slice-number.result.table; key = c.in_ok-key.key; foreign = c.in_ok-foreign.foreign; parent = c.index-as_slice-number.result.parent } ≡ layer_for c.args.schema.now c.index-as_slice-number.result
    same =
        let key : c.in_ok-key.key ≡ primary_of c.args.schema.now c.index-as_slice-number.result.table = c.in_ok-key.ensures in
        let foreign : c.in_ok-foreign.foreign ≡ foreign_key_of c.args.schema.now c.index-as_slice-number.result.table = c.in_ok-foreign.ensures in
        λ i. record { table = c.index-as_slice-number.result.table; key = key i; foreign = foreign i; parent = c.index-as_slice-number.result.parent }
