-- No row that is held leads to the row by way of the child tables so far, and by way of the rows of one of them so far.
use Rattle.std.proofs.Common.{◌≤◌, ◌<◌, ◌+◌, ◌-◌, ◌*◌, suc, ℕ, List, length}
use Rattle.std.specs.FinMap as fm
use Rattle.slot_rows.specs.row_types.specs.declared.value.Value.{Value}
use Rattle.slot_rows.specs.indexed_rows.specs.Places.{IsKeyAt}
use Rattle.slot_rows.specs.indexed_rows.specs.Rows.{key_of}
use Rattle.cache_store.specs.instances.specs.Views.{kept_at}
use Rattle.group_store.specs.Held.{held_at}
use Rattle.group_store.specs.Joined.{layers_of, places_at, tables_of}
use Rattle.group_store.specs.Passing.{HasNoneBy, HasNonePassing, IsChildKey}
use Rattle.group_store.proofs.tree_rows.TreeRows.+held.Given as goal

abbrev pub decreases-is_held : goal.decreases-is_held
decreases-is_held g l = 2 * (length l.self.now.children.items - l.place) + 1

abbrev pub decreases-is_held_by : goal.decreases-is_held_by
decreases-is_held_by g l = 2 * (length l.self.now.children.items - l.at)

abbrev pub invariant-is_held-loop-at : goal.invariant-is_held-loop-at
invariant-is_held-loop-at g l =
    (i : ℕ) → l.place ≤ i → i < l.at →
    HasNoneBy (held_at (g.H.Holds.held l.holds) l.root (layers_of l.self)) (layers_of l.self) (tables_of l.self) l.place (key_of (places_at l.self l.place) l.row) i

abbrev pub invariant-is_held_by-loop-spot : goal.invariant-is_held_by-loop-spot
invariant-is_held_by-loop-spot g l =
    (j : ℕ) (k : List Value) → j < l.from → IsKeyAt (fm.entries (kept_at (tables_of l.self) (suc l.at))) k j →
    IsChildKey (layers_of l.self) (tables_of l.self) l.place (key_of (places_at l.self l.place) l.row) l.at k →
    HasNonePassing (held_at (g.H.Holds.held l.holds) l.root (layers_of l.self)) (layers_of l.self) (tables_of l.self) (suc l.at) k

abbrev pub decreases-is_held_by-loop-spot : goal.decreases-is_held_by-loop-spot
decreases-is_held_by-loop-spot g l = fm.len (kept_at (tables_of l.self) (suc l.at)) - l.from
