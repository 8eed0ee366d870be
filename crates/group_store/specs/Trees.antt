-- The tables of a group's tree, and rows that lead to others. (TimesTen Cache User's Guide, "Cache instances": a row
-- of the root table with the rows that refer to it, directly or through others.)
use Rattle.std.specs.Prelude.{◌≡◌, ◌≢◌, ℕ, zero, suc, ◌+◌, ◌<◌, ◌≤◌, List, [], ◌∷◌, Option, Some, None, Bool, true, false, ◌⊎◌, ◌&&◌, ◌||◌, not, map, nat_eq, length, slice_get, unwrap_or}
use Rattle.std.specs.Option.{option_and_then, option_map}
use Rattle.std.specs.FinMap.{contains_key, empty, entries, get, retain_keys}
use Rattle.slot_rows.specs.row_types.specs.declared.value.Value.{Value}
use Rattle.slot_rows.specs.tier_base.specs.declared.number.TableId.{TableId}
use Rattle.slot_rows.specs.indexed_rows.specs.Places.{IsKeyAt}
use Rattle.slot_rows.specs.indexed_rows.specs.Rows.{Table, is_same, key_of}
use Rattle.cache_store.specs.instances.specs.Views.{kept_at}

-- A child table of a tree: its id, the columns of its primary and of its foreign key, and the place of the table that
-- the foreign key refers to. The root has place 0, and the children the places from 1 on.
pub record Layer : Type 0 where
  pub table : TableId
  pub key : List ℕ
  pub foreign : List ℕ
  pub parent : ℕ

-- the columns of the primary key of the table at a place
abbrev pub key_at : List ℕ → List Layer → ℕ → List ℕ
key_at root layers zero = root
key_at root layers (suc i) = unwrap_or (option_map (λ l. l.key) (slice_get layers i)) []

-- the columns of the foreign key of the table at a place, where it has one
abbrev pub foreign_at : List ℕ → List Layer → ℕ → List ℕ
foreign_at root layers zero = root
foreign_at root layers (suc i) = unwrap_or (option_map (λ l. l.foreign) (slice_get layers i)) []

-- the place and the key that the foreign key of a key's row names
abbrev pub parent_of : List Layer → List Table → ℕ → List Value → Option (ℕ × List Value)
parent_of layers tables zero key = None
parent_of layers tables (suc i) key =
    option_and_then
    (λ l. option_map (λ row. (l.parent, key_of l.foreign row)) (get (kept_at tables (suc i)) key)) (slice_get layers i)

-- the key's row is the one at the top, which is there
abbrev pub is_top : List Table → ℕ → List Value → ℕ → List Value → Bool
is_top tables top at place key = nat_eq place top && is_same key at && contains_key (kept_at tables top) at

abbrev pub passes_up : (ℕ → List Value → Bool) → Option (ℕ × List Value) → Bool
passes_up test None = false
passes_up test (Some e) = test e.0 e.1

-- the row of a key is the one at the top, or leads there over at most n foreign keys
abbrev pub leads : List Layer → List Table → ℕ → List Value → ℕ → ℕ → List Value → Bool
leads layers tables top at zero place key = is_top tables top at place key
leads layers tables top at (suc n) place key =
    is_top tables top at place key || passes_up (leads layers tables top at n) (parent_of layers tables place key)

-- of each table the rows whose place and key pass a test
abbrev pub keep : (ℕ → List Value → Bool) → List Table → List Table
keep test [] = []
keep test (t ∷ ts) = retain_keys t (test 0) ∷ keep (λ place. test (suc place)) ts

-- the tables without a row and all that lead to it
abbrev pub cut_from : List Layer → List Table → ℕ → List Value → List Table
cut_from layers tables top at =
    keep (λ place key. not (leads layers tables top at (length layers) place key)) tables

-- the tables without their rows
abbrev pub all_empty : List Table → List Table
all_empty tables = map (λ t. empty) tables

-- no row refers to the key at a place
abbrev pub IsChildless : List Layer → List Table → ℕ → List Value → Type 0
IsChildless layers tables place key =
    (i : ℕ) (l : Layer) (child row : List Value) → slice_get layers i ≡ Some l → l.parent ≡ place →
    get (kept_at tables (suc i)) child ≡ Some row → key_of l.foreign row ≢ key

-- a row refers to the key at a place
pub record IsChild
    (layers : List Layer) (tables : List Table) (place : ℕ) (key : List Value) (at : ℕ)
    (row : List Value) : Type 0 where
  pub i : ℕ
  pub layer : Layer
  pub is : at ≡ suc i
  pub there : slice_get layers i ≡ Some layer
  pub parent : layer.parent ≡ place
  pub found : get (kept_at tables at) (key_of layer.key row) ≡ Some row
  pub refers : key_of layer.foreign row ≡ key

-- no row refers to this one, which leads to the one at the top
pub record IsLeaf
    (root : List ℕ) (layers : List Layer) (tables : List Table) (top : ℕ) (at : List Value) (place : ℕ)
    (row : List Value) : Type 0 where
  pub found : get (kept_at tables place) (key_of (key_at root layers place) row) ≡ Some row
  pub childless : IsChildless layers tables place (key_of (key_at root layers place) row)
  pub behind : top ≤ place
  pub within : place ≤ length layers
  pub steps : ℕ
  pub few : top + steps ≤ place
  pub leads : leads layers tables top at steps place (key_of (key_at root layers place) row) ≡ true

-- the row at a place in key order of a table behind the top can go: no row refers to it, and it leads to the top
pub record CanGo
    (layers : List Layer) (tables : List Table) (top : ℕ) (at : List Value) (place spot : ℕ) : Type 0 where
  pub key : List Value
  pub here : IsKeyAt (entries (kept_at tables place)) key spot
  pub childless : IsChildless layers tables place key
  pub behind : top < place
  pub within : place ≤ length layers
  pub leads : leads layers tables top at (length layers) place key ≡ true

-- no row but the one at the top leads to it
abbrev pub IsBare : List Layer → List Table → ℕ → List Value → Type 0
IsBare layers tables top at = (contains_key (kept_at tables top) at ≡ false) ⊎ IsChildless layers tables top at
