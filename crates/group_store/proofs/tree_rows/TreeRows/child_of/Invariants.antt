use Rattle.std.proofs.Common.{◌≡◌, ◌≢◌, ℕ, ◌<◌, List, Some, slice_get}
use Rattle.std.specs.FinMap as fm
use Rattle.slot_rows.specs.row_types.specs.declared.value.Value.{Value}
use Rattle.slot_rows.specs.indexed_rows.specs.Rows.{key_of}
use Rattle.group_store.specs.declared.tree_rows.ChildRows.{ChildRows}
use Rattle.group_store.proofs.tree_rows.TreeRows.child_of.Given as goal

abbrev pub invariant-loop-at : goal.invariant-loop-at
invariant-loop-at l =
    (i : ℕ) (c : ChildRows) → i < l.at → slice_get l.self.children.items i ≡ Some c → c.parent ≡ l.place → (child row : List Value) → fm.get c.rows.table child ≡ Some row → key_of c.foreign row ≢ key_of l.columns l.row
