-- The rows of a root table, and their keys in the order of last use. (TimesTen Cache User's Guide, "Implementing aging
-- in a cache group".)
use Rattle.std.specs.Prelude.{◌≡◌, ℕ, List, [], ◌∷◌, ◌++◌, Option, Some, None, true, false, nat_eq, map, unwrap_or, refl, if◌then◌else◌}
use Rattle.std.specs.List.{filter, list_any}
use Rattle.std.specs.Coded.{Coded, code_by, coded×, coded_list, coded_ℕ}
use Rattle.std.specs.FinMap as fm
use Rattle.slot_rows.specs.row_types.specs.declared.value.Value.{Value}
use Rattle.slot_rows.specs.row_types.specs.contracts.value.Value as one
use Rattle.slot_rows.specs.indexed_rows.specs.Places.{IsKeyAt}
use Rattle.slot_rows.specs.indexed_rows.specs.Rows.{Table, is_same}
use Rattle.cache_store.specs.recency.specs.Rings.{keys_without}
use Rattle.slot_rows.specs.SlotKeys.{RowsHeld, SlotKeys}

-- what clauses see: the rows by key, the columns of the key, those of the foreign key, the keys with the oldest first,
-- and how many more rows go in without memory
pub record RecentHeld : Type 0 where
  pub table : Table
  pub places : List ℕ
  pub foreign : List ℕ
  pub keys : List (List Value)
  pub spare : ℕ

abbrev pub row_code : Coded (List Value)
row_code = coded_list one.the_row.coded

abbrev pub recent_held_code : Coded RecentHeld
recent_held_code =
    code_by (Table × (List ℕ × (List ℕ × (List (List Value) × ℕ))))
    (coded× (fm.code row_code row_code)
    (coded× (coded_list coded_ℕ) (coded× (coded_list coded_ℕ) (coded× (coded_list row_code) coded_ℕ))))
    (λ h. (h.table, (h.places, (h.foreign, (h.keys, h.spare)))))
    (λ p. record { table = p.0; places = p.1.0; foreign = p.1.1.0; keys = p.1.1.1.0; spare = p.1.1.1.1 }) (λ _. refl)

-- the orders beside the one by key: where there is a foreign key, one by its columns and then the key's
abbrev pub orders_for : List ℕ → List ℕ → List (List ℕ)
orders_for [] places = []
orders_for (column ∷ foreign) places = ((column ∷ foreign) ++ places) ∷ []

-- there are no rows, and these orders
pub record HasOrders (primary columns : List ℕ) (held : RowsHeld) : Type 0 where
  pub table : held.table ≡ fm.empty
  pub slots : held.slots ≡ fm.empty
  pub places : held.places ≡ primary
  pub orders : held.orders ≡ orders_for columns primary

-- there are no rows of these keys
pub record HasNoRows (primary columns : List ℕ) (held : RecentHeld) : Type 0 where
  pub table : held.table ≡ fm.empty
  pub places : held.places ≡ primary
  pub foreign : held.foreign ≡ columns
  pub keys : held.keys ≡ []

-- the key of the row in a slot
abbrev pub key_in : SlotKeys → ℕ → List Value
key_in slots s = unwrap_or (fm.get slots s) []

abbrev pub keys_of : SlotKeys → List ℕ → List (List Value)
keys_of slots recent = map (key_in slots) recent

-- the slots of a list are those that have rows
abbrev pub AreRecent : SlotKeys → List ℕ → Type 0
AreRecent slots recent = (s : ℕ) → list_any (nat_eq s) recent ≡ fm.contains_key slots s

-- no slot stands twice
abbrev pub AreOnce : List ℕ → Type 0
AreOnce recent = (s : ℕ) → filter (nat_eq s) recent ≡ (if list_any (nat_eq s) recent then s ∷ [] else [])

-- the keys in the order of last use are those that have rows, each once
pub record HasItsKeys (held : RecentHeld) : Type 0 where
  pub are : (key : List Value) → list_any (is_same key) held.keys ≡ fm.contains_key held.table key
  pub once : (key : List Value) → fm.contains_key held.table key ≡ true → filter (is_same key) held.keys ≡ key ∷ []

-- a key becomes the newest, where the table doesn't have it yet
abbrev pub entered_last : Table → List Value → List (List Value) → List (List Value)
entered_last table key keys = if fm.contains_key table key then keys else keys ++ key ∷ []

-- the place in key order of a key's row, where it has one
abbrev pub IsRowPlace : Table → List Value → Option ℕ → Type 0
IsRowPlace table key None = fm.contains_key table key ≡ false
IsRowPlace table key (Some place) = IsKeyAt (fm.entries table) key place

-- the place in key order of a key's row; none where there is no key
abbrev pub StandsAt : Table → Option (List Value) → Option ℕ → Type 0
StandsAt table None place = place ≡ None
StandsAt table (Some key) None = ⊥
StandsAt table (Some key) (Some place) = IsKeyAt (fm.entries table) key place

-- a key's row was taken out, and the key
pub record TakesRecent (old new : RecentHeld) (key : List Value) (row : Option (List Value)) : Type 0 where
  pub was : row ≡ fm.get old.table key
  pub now : new.table ≡ fm.remove old.table key
  pub keys : new.keys ≡ keys_without is_same key old.keys

-- the same, whatever the row was
pub record LosesRecent (old new : RecentHeld) (key : List Value) : Type 0 where
  pub now : new.table ≡ fm.remove old.table key
  pub keys : new.keys ≡ keys_without is_same key old.keys
