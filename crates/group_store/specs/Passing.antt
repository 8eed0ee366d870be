-- Rows that pass a test of their place and key, and lead to a row.
use Rattle.std.specs.Prelude.{◌≡◌, ℕ, suc, ◌+◌, ◌≤◌, List, Some, Bool, MatchBool, true, false, length, slice_get}
use Rattle.std.specs.FinMap.{contains_key, get}
use Rattle.slot_rows.specs.row_types.specs.declared.value.Value.{Value}
use Rattle.slot_rows.specs.indexed_rows.specs.Rows.{Table, key_of}
use Rattle.cache_store.specs.instances.specs.Views.{kept_at}
use Rattle.group_store.specs.Trees.{Layer, leads}
use Rattle.group_store.specs.Joined.{layers_of, tables_of}
use Rattle.group_store.specs.declared.tree_rows.TreeRows.{TreeRows}

-- a row that passes leads to the one at the top, or is it
pub record HasPassing
    (test : ℕ → List Value → Bool) (layers : List Layer) (tables : List Table) (top : ℕ)
    (at : List Value) : Type 0 where
  pub place : ℕ
  pub key : List Value
  pub steps : ℕ
  pub few : top + steps ≤ place
  pub within : place ≤ length layers
  pub there : contains_key (kept_at tables place) key ≡ true
  pub leads : leads layers tables top at steps place key ≡ true
  pub passes : test place key ≡ true

-- none does
abbrev pub HasNonePassing : (ℕ → List Value → Bool) → List Layer → List Table → ℕ → List Value → Type 0
HasNonePassing test layers tables top at =
    (steps place : ℕ) (key : List Value) → leads layers tables top at steps place key ≡ true → test place key ≡ false

-- whether a row that passes leads to the one at the top, or is it
abbrev pub TellsPassing : (ℕ → List Value → Bool) → TreeRows → ℕ → List Value → Bool → Type 0
TellsPassing test t top at tells =
    MatchBool tells (HasPassing test (layers_of t) (tables_of t) top at)
    (HasNonePassing test (layers_of t) (tables_of t) top at)

-- a row of this key of a child table refers to the one at the top
pub record IsChildKey
    (layers : List Layer) (tables : List Table) (top : ℕ) (at : List Value) (i : ℕ)
    (key : List Value) : Type 0 where
  pub layer : Layer
  pub row : List Value
  pub there : slice_get layers i ≡ Some layer
  pub parent : layer.parent ≡ top
  pub found : get (kept_at tables (suc i)) key ≡ Some row
  pub refers : key_of layer.foreign row ≡ at

-- no row that passes leads to the one at the top by way of this child table
abbrev pub HasNoneBy : (ℕ → List Value → Bool) → List Layer → List Table → ℕ → List Value → ℕ → Type 0
HasNoneBy test layers tables top at i =
    (key : List Value) → IsChildKey layers tables top at i key → HasNonePassing test layers tables (suc i) key

-- whether one does, and then one leads to the top
abbrev pub TellsBy : (ℕ → List Value → Bool) → TreeRows → ℕ → List Value → ℕ → Bool → Type 0
TellsBy test t top at i tells =
    MatchBool tells (HasPassing test (layers_of t) (tables_of t) top at)
    (HasNoneBy test (layers_of t) (tables_of t) top at i)
