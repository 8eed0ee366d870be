use Rattle.std.proofs.Common.{refl}
use Rattle.aging_cycles.proofs.Walks.{got}
use Rattle.aging_cycles.proofs.leaving.leave_from.Goals as goal

pub returns-clause-left : goal.returns-clause-left
returns-clause-left c = record {
  store = c.index_mut.result.now;
  left = c.leave_group.new.store;
  before = c.index_mut-2.result.now;
  behind = c.leave_group.new.hidden;
  kept = got c.args.stores.now.items c.args.place c.index_mut.result.now c.requires.stores c.index_mut.ensures.value;
  held = got c.args.hidden.now.items c.args.place c.index_mut-2.result.now c.requires.hidden c.index_mut-2.ensures.value;
  does = c.leave_group.ensures.left;
  stores = refl;
  rows = refl;
}
