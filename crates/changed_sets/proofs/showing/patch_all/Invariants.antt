-- Those that are left lead to the same end.
use Rattle.std.proofs.Common.{Some, List, length, slice_get, ◌≡◌, ℕ}
use Rattle.group_store.specs.Stores.{Kept}
use Rattle.slot_rows.specs.SlotKeys.{RowsHeld}
use Rattle.changed_sets.specs.Showing.{HiddenBy, Patched, TurnedBy}
use Rattle.changed_sets.specs.Turning.{IsReadyFor}
use Rattle.changed_sets.specs.declared.turns.Patch.{Patch}
use Rattle.changed_sets.proofs.showing.patch_all.Given as goal

abbrev pub invariant-loop-patch : goal.invariant-loop-patch
invariant-loop-patch l = record {
  ready : (k : ℕ) (p : Patch) (s : Kept) → slice_get l.patches.items k ≡ Some (Some p) → slice_get l.stores.items k ≡ Some s → IsReadyFor s p;
  stores : (end : List Kept) → Patched TurnedBy l.patches.items l.stores.items end → Patched TurnedBy l.fn.patches.items l.fn.stores.items end;
  hidden : (end : List RowsHeld) → Patched HiddenBy l.patches.items l.hidden.items end → Patched HiddenBy l.fn.patches.items l.fn.hidden.items end;
}

abbrev pub decreases-loop-patch : goal.decreases-loop-patch
decreases-loop-patch l = length l.patches.items
