use Rattle.changed_sets.specs.OfAgingCycles.Walks.{got}
use Rattle.group_engine.specs.UnloadNamed.{FitsUnder}
use Rattle.group_engine.proofs.UnloadHidden.{both_at, both_kept}
use Rattle.group_engine.proofs.unload_hidden.cut_at.Goals as goal

pub returns-clause-ok : goal.returns-clause-ok
returns-clause-ok c =
    both_at (FitsUnder c.args.def.now) c.args.place c.args.def.now.primary_key c.args.which.now c.args.stores.now.items c.args.hidden.now.items c.index_mut.result.now c.cut_both.new.store c.index_mut-2.result.now c.cut_both.new.hidden c.cut_both.result
    (got c.args.stores.now.items c.args.place c.index_mut.result.now c.requires.stores c.index_mut.ensures.value) (got c.args.hidden.now.items c.args.place c.index_mut-2.result.now c.requires.hidden c.index_mut-2.ensures.value) c.cut_both.ensures.ok

pub returns-clause-err : goal.returns-clause-err
returns-clause-err c =
    both_kept c.args.place c.args.stores.now.items c.args.hidden.now.items c.index_mut.result.now c.cut_both.new.store c.index_mut-2.result.now c.cut_both.new.hidden c.cut_both.result
    (got c.args.stores.now.items c.args.place c.index_mut.result.now c.requires.stores c.index_mut.ensures.value) (got c.args.hidden.now.items c.args.place c.index_mut-2.result.now c.requires.hidden c.index_mut-2.ensures.value) c.cut_both.ensures.err
