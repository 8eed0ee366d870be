-- Those so far are cut down.
use Rattle.std.proofs.Common.{◌≤◌, ◌+◌}
use Rattle.group_store.specs.Stores.{SameButSpare}
use Rattle.changed_sets.specs.Turning.{AreUnder, count_cuts, cut_all}
use Rattle.changed_sets.proofs.turning.cut_down.Given as goal

abbrev pub invariant-loop-cut : goal.invariant-loop-cut
invariant-loop-cut l = record {
  cut : SameButSpare (cut_all l.fn.cuts l.fn.store) (cut_all l.cut-iterator.rest.items l.store);
  under : AreUnder l.store.key l.cut-iterator.rest.items;
  room : count_cuts l.cut-iterator.rest.items ≤ l.store.spare;
  spare : l.fn.store.spare + count_cuts l.cut-iterator.rest.items ≤ l.store.spare + count_cuts l.fn.cuts;
}
