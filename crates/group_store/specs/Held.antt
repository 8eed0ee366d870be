-- Rows of an instance whose keys are held, as by open transactions. (This project's rule: an instance with a row that
-- an open transaction holds doesn't age.)
use Rattle.std.specs.Prelude.{ℕ, zero, suc, List, [], ◌∷◌, Bool, false, ◌&&◌, ◌||◌, length, slice_get, unwrap_or}
use Rattle.std.specs.List.{list_any}
use Rattle.std.specs.Option.{option_map}
use Rattle.std.specs.FinMap.{keys}
use Rattle.slot_rows.specs.row_types.specs.declared.value.Value.{Value}
use Rattle.slot_rows.specs.tier_base.specs.declared.number.TableId.{TableId}
use Rattle.slot_rows.specs.indexed_rows.specs.Rows.{Table}
use Rattle.group_store.specs.Trees.{Layer, leads}
use Rattle.group_store.specs.Stores.{Kept}

-- the id of the table at a place of the tree
abbrev pub id_at : TableId → List Layer → ℕ → TableId
id_at root layers zero = root
id_at root layers (suc i) = unwrap_or (option_map (λ l. l.table) (slice_get layers i)) root

-- a key of the table at a place is held
abbrev pub held_at : (TableId → List Value → Bool) → TableId → List Layer → ℕ → List Value → Bool
held_at held root layers place key = held (id_at root layers place) key

-- a row of one of the tables passes a test of its place and key
abbrev pub has_row : (ℕ → List Value → Bool) → List Table → Bool
has_row test [] = false
has_row test (t ∷ ts) = list_any (test 0) (keys t) || has_row (λ place. test (suc place)) ts

-- a row of a root's instance has a key that is held
abbrev pub is_instance_held : (TableId → List Value → Bool) → Kept → List Value → Bool
is_instance_held held s root =
    has_row
    (λ place key. leads s.layers s.tables 0 root (length s.layers) place key && held_at held s.table s.layers place key)
    s.tables
