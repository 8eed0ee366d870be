-- Several orders of the same rows (this project's rule).
use Rattle.std.specs.Prelude.{◌≡◌, ◌≢◌, ℕ, ◌+◌, ◌<◌, ◌≤◌, ◌^◌, ◌++◌, List, [], ◌∷◌, Option, None, Some, true, All, drop, insert, remove, is_some, length, take, slice_get, slice_index_or}
use Rattle.std.specs.declared.cmp.Ordering.TheVariants.{Less}
use Rattle.std.specs.FinMap as fm
use Rattle.slab.specs.Slab.{Slab, get}
use Rattle.indexed_rows.specs.row_types.specs.declared.value.Value.{Value}
use Rattle.indexed_rows.specs.Places.{IsKeyAt}
use Rattle.indexed_rows.specs.row_types.specs.Order.{key_order}
use Rattle.indexed_rows.specs.Rows.{Table, first_from, has_key, key_of}
use Rattle.slot_rows.specs.Slots.{AreOrdered, row_in, slots_of, table_in}
use Rattle.slot_rows.specs.declared.order.Entry.{Entry}
use Rattle.slot_rows.specs.declared.order.Order.{Order}

-- it holds of each element
abbrev pub Each : {A : Type 0} → (A → Type 0) → List A → Type 0
Each P [] = Unit {0}
Each P (x ∷ xs) = P x × Each P xs

-- it holds between each element and the one that now stands there
abbrev pub EachNow : {A : Type 0} → (A → A → Type 0) → List A → List A → Type 0
EachNow R [] [] = Unit {0}
EachNow R [] (y ∷ ys) = ⊥
EachNow R (x ∷ xs) [] = ⊥
EachNow R (x ∷ xs) (y ∷ ys) = R x y × EachNow R xs ys

-- each slot of the first list is in the second
abbrev pub AllIn : List ℕ → List ℕ → Type 0
AllIn xs ys = (i slot : ℕ) → slice_get xs i ≡ Some slot → (j : ℕ) × (slice_get ys j ≡ Some slot)

-- some columns and then these
abbrev pub IsWider : List ℕ → List ℕ → Type 0
IsWider wide places = (columns : List ℕ) × (wide ≡ columns ++ places)

-- another order has the same slots as the order by key, by some columns and then the key's, and room for as many more
pub record IsOther
    (slab : Slab (List Value)) (places : List ℕ) (entries : List Entry) (spare : ℕ) (order : Order) : Type 0 where
  pub ordered : AreOrdered slab order.places order.entries
  pub entered : AllIn (slots_of entries) (slots_of order.entries)
  pub only : AllIn (slots_of order.entries) (slots_of entries)
  pub long : length order.entries ≡ length entries
  pub wider : IsWider order.places places
  pub room : spare ≤ length order.room.items

-- a slot with a row can be entered into the order, which has none of that key
pub record Awaits (slab : Slab (List Value)) (slot : ℕ) (order : Order) : Type 0 where
  pub ordered : AreOrdered slab order.places order.entries
  pub live : is_some (get slab slot) ≡ true
  pub absent : (i : ℕ) →
      IsKeyAt (fm.entries (table_in slab order.places order.entries)) (key_of order.places (row_in slab slot)) i → ⊥
  pub fits : length order.entries + 1 < 2 ^ 63
  pub room : 0 < length order.room.items

-- a slot was entered into the order
pub record EntersOrder (slab : Slab (List Value)) (slot : ℕ) (old new : Order) : Type 0 where
  pub ordered : AreOrdered slab new.places new.entries
  pub places : new.places ≡ old.places
  pub at : ℕ
  pub slots : slots_of new.entries ≡ insert (slots_of old.entries) at slot
  pub long : length new.entries ≡ length old.entries + 1
  pub room : length old.room.items ≡ length new.room.items + 1

-- the order has the slot
pub record Includes (slab : Slab (List Value)) (slot : ℕ) (order : Order) : Type 0 where
  pub ordered : AreOrdered slab order.places order.entries
  pub place : ℕ
  pub there : slice_get (slots_of order.entries) place ≡ Some slot

-- a slot was taken out of the order
pub record LeavesOrder (slot : ℕ) (old new : Order) : Type 0 where
  pub places : new.places ≡ old.places
  pub at : ℕ
  pub was : slice_get (slots_of old.entries) at ≡ Some slot
  pub entries : new.entries ≡ remove old.entries at
  pub long : length new.entries + 1 ≡ length old.entries
  pub room : new.room ≡ old.room

-- a slot whose row has these values at these columns; none where no row has
abbrev pub IsSlotWith : Slab (List Value) → List ℕ → List ℕ → List Value → Option ℕ → Type 0
IsSlotWith slab slots columns values None =
    (i slot : ℕ) → slice_get slots i ≡ Some slot → key_of columns (row_in slab slot) ≢ values
IsSlotWith slab slots columns values (Some slot) =
    (i : ℕ) × (slice_get slots i ≡ Some slot) × (key_of columns (row_in slab slot) ≡ values)

-- a row of the table with these values at these columns; none where no row has
abbrev pub IsRowWith : Table → List ℕ → List ℕ → List Value → Option (List Value) → Type 0
IsRowWith table places columns values None =
    (key row : List Value) → fm.get table key ≡ Some row → key_of columns row ≢ values
IsRowWith table places columns values (Some row) =
    (fm.get table (key_of places row) ≡ Some row) × (key_of columns row ≡ values)

-- so many columns at the front of another order's
abbrev pub first_columns : List (List ℕ) → ℕ → ℕ → List ℕ
first_columns orders order n = take n (slice_index_or orders order [])

-- the first n keys of the table are below this one, and the others are not
pub record IsStart (table : Table) (key : List Value) (n : ℕ) : Type 0 where
  pub within : n ≤ fm.len table
  pub below : All (λ other. key_order other key ≡ Less) (take n (fm.keys table))
  pub at_least : All (λ other. key_order other key ≢ Less) (drop n (fm.keys table))

-- the first place in key order, from a place on, of a row with these values at these columns
abbrev pub place_from : Table → List ℕ → List Value → ℕ → Option ℕ
place_from table columns values from = first_from (has_key columns values) from (drop from (fm.values table))

-- so many columns stand before the key's in another order
abbrev pub HasBefore : List (List ℕ) → ℕ → List ℕ → ℕ → Type 0
HasBefore orders order places n = n + length places ≡ length (slice_index_or orders order [])

-- the row of a key was taken out
pub record TakesRow (old new : Table) (key : List Value) (row : Option (List Value)) : Type 0 where
  pub was : row ≡ fm.get old key
  pub now : new ≡ fm.remove old key

-- the order is as it was, with no less room
pub record SameOrder (old new : Order) : Type 0 where
  pub places : new.places ≡ old.places
  pub entries : new.entries ≡ old.entries
  pub room : length old.room.items ≤ length new.room.items

-- the order has no slots, and as much room
pub record EmptiesOrder (old new : Order) : Type 0 where
  pub places : new.places ≡ old.places
  pub entries : new.entries ≡ []
  pub room : new.room ≡ old.room

abbrev pub HasSpare : ℕ → Order → Type 0
HasSpare more order = more ≤ length order.room.items
