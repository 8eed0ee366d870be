use Rattle.std.proofs.Common.{◌≡◌, ◌≤◌, drop}
use Rattle.std.specs.FinMap.{keys}
use Rattle.group_store.specs.Stores.{SameButSpare}
use Rattle.group_store.proofs.CommitLaws.{touched_all}
use Rattle.group_store.proofs.store.Store.commit_ops.Given as goal

abbrev pub invariant-loop-at : goal.invariant-loop-at
invariant-loop-at l = record {
  same : SameButSpare (record l.initial.self { keys = l.self.keys }) l.self;
  keys : touched_all (drop l.at (keys l.roots)) l.self.keys ≡ touched_all (keys l.roots) l.initial.self.keys;
  spare : l.initial.self.spare ≤ l.self.spare;
}
