-- Recency over slots, and over the keys of the rows in them.
use Rattle.std.specs.Prelude.{◌≡◌, ℕ, List, Some, map, nat_eq, slice_get}
use Rattle.instances.specs.row_types.specs.declared.value.Value.{Value}
use Rattle.instances.specs.indexed_rows.specs.Rows.{is_same}
use Rattle.recency.specs.Rings.{touched, keys_without}

-- a slot's key is that of no other slot of these
abbrev pub HasOwnKey : (ℕ → List Value) → List ℕ → ℕ → Type 0
HasOwnKey key_in slots slot = (i other : ℕ) → slice_get slots i ≡ Some other
    → is_same (key_in slot) (key_in other) ≡ nat_eq slot other

-- so what a call does to the slots it does to the keys
abbrev pub TiesKeys : (ℕ → List Value) → List ℕ → ℕ → Type 0
TiesKeys key_in slots slot =
    HasOwnKey key_in slots slot →
    (map key_in (touched nat_eq slot slots) ≡ touched is_same (key_in slot) (map key_in slots)) ×
    (map key_in (keys_without nat_eq slot slots) ≡ keys_without is_same (key_in slot) (map key_in slots))
