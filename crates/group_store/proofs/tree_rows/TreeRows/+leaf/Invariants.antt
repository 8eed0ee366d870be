-- A child's table stands behind its parent's.
use Rattle.std.proofs.Common.{◌-◌, length}
use Rattle.group_store.proofs.tree_rows.TreeRows.+leaf.Given as goal

abbrev pub decreases-leaf : goal.decreases-leaf
decreases-leaf l = length l.self.now.children.items - l.place
