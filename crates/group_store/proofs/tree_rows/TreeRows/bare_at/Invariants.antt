use Rattle.std.proofs.Common.{◌≡◌, ◌≤◌, List}
use Rattle.std.specs.FinMap as fm
use Rattle.slot_rows.specs.row_types.specs.declared.value.Value.{Value}
use Rattle.slot_rows.specs.indexed_rows.specs.Places.{IsKeyAt}
use Rattle.cache_store.specs.instances.specs.Views.{kept_at}
use Rattle.group_store.specs.Trees.{cut_from}
use Rattle.group_store.specs.Joined.{AreJoined, layers_of, least_spare, tables_of}
use Rattle.group_store.proofs.TreeLaws.{count_rows}
use Rattle.group_store.proofs.tree_rows.TreeRows.bare_at.Given as goal

abbrev pub invariant-loop-place : goal.invariant-loop-place
invariant-loop-place l = record {
  cut : (key : List Value) → IsKeyAt (fm.entries (kept_at (tables_of l.fn.self) l.top)) key l.at → cut_from (layers_of l.self) (tables_of l.self) l.top key ≡ cut_from (layers_of l.fn.self) (tables_of l.fn.self) l.top key;
  top : kept_at (tables_of l.self) l.top ≡ kept_at (tables_of l.fn.self) l.top;
  layers : layers_of l.self ≡ layers_of l.fn.self;
  joined : AreJoined l.self;
  spare : least_spare l.fn.self ≤ least_spare l.self;
  roots : l.self.roots ≡ l.fn.self.roots;
}

abbrev pub decreases-loop-place : goal.decreases-loop-place
decreases-loop-place l = count_rows (tables_of l.self)
