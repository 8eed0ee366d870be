use Rattle.std.proofs.Common.{◌≡◌, ◌<◌, ◌≤◌, ℕ, Some, slice_get}
use Rattle.group_store.specs.declared.tree_rows.ChildRows.{ChildRows}
use Rattle.group_store.specs.Joined.{KeepsTree, least_spare, tables_of}
use Rattle.group_store.proofs.tree_rows.TreeRows.reserve.Given as goal

abbrev pub invariant-loop-place : goal.invariant-loop-place
invariant-loop-place l = record {
  tables : tables_of l.self ≡ tables_of l.fn.self;
  same : KeepsTree l.fn.self l.self;
  keys : l.self.roots.keys ≡ l.fn.self.roots.keys;
  spare : least_spare l.fn.self ≤ least_spare l.self;
  root : l.more ≤ l.self.roots.spare;
  room : (i : ℕ) (c : ChildRows) → i < l.place → slice_get l.self.children.items i ≡ Some c → l.more ≤ c.rows.spare;
}
