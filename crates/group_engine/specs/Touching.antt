-- REFRESH of a dynamic writethrough group touches the instances that it has. (TimesTen SQL Reference, "REFRESH CACHE
-- GROUP"; that it brings in none is this project's rule.)

use Rattle.std.specs.Prelude.{◌≡◌, ℕ, List, Bool, true, ◌&&◌, Some, is_none, slice_get}
use Rattle.std.specs.FinMap.{len}
use Rattle.row_types.specs.declared.value.Value.{Value}
use Rattle.indexed_rows.specs.Rows.{Table}
use Rattle.table_state.specs.Tables.{TableState, table_at}
use Rattle.evaluator.specs.Writes.{selects as judges}
use Rattle.slot_rows.specs.SlotKeys.{RowsHeld}
use Rattle.group_catalog.specs.Catalogs.{groups_in}
use Rattle.group_catalog.specs.declared.which.ResolvedWhich.{ResolvedWhich}
use Rattle.group_store.specs.Stores.{HasRootKeys, Kept}
use Rattle.cache_tier.specs.Groups.{Group}
use Rattle.stored_tier.specs.declared.tier.Tier.{Tier as Stored}
use Rattle.stored_tier.specs.Choosing.{chosen, matches_at}
use Rattle.stored_tier.specs.Filling.{is_held}
use Rattle.group_engine.specs.Gaining.{IsStoredAt, any_bad}

-- the group has the instance of a root row, on which the condition is 120, or which matches
abbrev pub is_held_bad : ResolvedWhich → Kept → Table → List Value → List Value → Bool
is_held_bad which s hidden key row = is_held s hidden key && is_none (judges which.filter row)

abbrev pub is_held_match : ResolvedWhich → Kept → Table → List Value → List Value → Bool
is_held_match which s hidden key row = matches_at which key row && is_held s hidden key

-- what is asked of the group at a place: whether the condition is 120, and how many of its instances match
abbrev pub TellsHeldOverflow : Stored → ℕ → ResolvedWhich → TableState → Bool → Type 0
TellsHeldOverflow t place which state result =
    (g : Group) (s : Kept) (h : RowsHeld) → IsStoredAt t place g s h
    → HasRootKeys s × (result ≡ any_bad (is_held_bad which s h.table) (table_at state g.def.tree.root.table))

abbrev pub CountsHeld : Stored → ℕ → ResolvedWhich → TableState → ℕ → Type 0
CountsHeld t place which state n =
    (g : Group) (s : Kept) (h : RowsHeld) → IsStoredAt t place g s h
    → n ≡ len (chosen (is_held_match which s h.table) (table_at state g.def.tree.root.table))

-- REFRESH of the group at a place, and it is dynamic
abbrev pub IsTouchedAt : Stored → ℕ → Type 0
IsTouchedAt t place = (g : Group) → slice_get (groups_in t.catalog) place ≡ Some g → g.def.dynamic ≡ true
