-- Rows of a table by their keys, and keys of rows. (TimesTen SQL Reference, "CREATE TABLE": primary keys.)

use Rattle.std.specs.Prelude.{ℕ, suc, List, [], ◌∷◌, Option, Some, None, Bool, map, not, slice_get, unwrap_or, if◌then◌else◌}
use Rattle.std.specs.Ordering.{is_eq}
use Rattle.std.specs.FinMap.{FinMap, contains_key, insert}
use Rattle.row_types.specs.declared.value.Value.{Value}
use Rattle.row_types.specs.declared.value.Value.TheVariants.{Null}
use Rattle.row_types.specs.Order.{key_order, order_of}

-- the rows of a table by primary key, in key order
abbrev pub Table : Type 0
Table = FinMap key_order (List Value)

-- the values at these places
abbrev pub key_of : List ℕ → List Value → List Value
key_of places row = map (λ place. unwrap_or (slice_get row place) Null) places

-- the same values
abbrev pub is_same : List Value → List Value → Bool
is_same a b = is_eq (key_order a b)

-- the value at a place, NULL past the end
abbrev pub value_at : List Value → ℕ → Value
value_at row place = unwrap_or (slice_get row place) Null

-- the values at this place differ
abbrev pub changes : List Value → List Value → ℕ → Bool
changes old new place = not (is_eq (order_of (value_at old place) (value_at new place)))

-- the row goes in where the key has none
abbrev pub put_in : Table → List Value → List Value → Table
put_in table key row = if contains_key table key then table else insert table key row

-- the row goes in where the key has one
abbrev pub put_over : Table → List Value → List Value → Table
put_over table key row = if contains_key table key then insert table key row else table

-- the row has this key at these places
abbrev pub has_key : List ℕ → List Value → List Value → Bool
has_key places key row = is_same (key_of places row) key

-- the place of the first element that passes the test, where the first of all is at place i
abbrev pub first_from : {A : Type 0} → (A → Bool) → ℕ → List A → Option ℕ
first_from p i [] = None
first_from p i (x ∷ xs) = if p x then Some i else first_from p (suc i) xs
