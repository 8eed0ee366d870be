use Rattle.std.proofs.Common.{◌≡◌, ◌<◌, ℕ, [], Some, slice_get}
use Rattle.std.specs.FinMap.{empty}
use Rattle.group_store.specs.declared.tree_rows.ChildRows.{ChildRows}
use Rattle.group_store.specs.Joined.{KeepsTree}
use Rattle.group_store.proofs.tree_rows.TreeRows.clear.Given as goal

abbrev pub invariant-loop-place : goal.invariant-loop-place
invariant-loop-place l = record {
  same : KeepsTree l.fn.self l.self;
  keys : l.self.roots.keys ≡ [];
  root : l.self.roots.table ≡ empty;
  rows : (i : ℕ) (c : ChildRows) → i < l.place → slice_get l.self.children.items i ≡ Some c → c.rows.table ≡ empty;
}
