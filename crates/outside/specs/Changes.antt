-- What the backing database tells of the changes since a position. (This project's model of the backing database;
-- TimesTen Cache User's Guide, "Automatically refreshing a cache group": incremental autorefresh goes by logs of
-- changes.)

use Rattle.std.specs.Prelude.{◌≡◌, ℕ, zero, suc, List, [], ◌∷◌, Option, Some, None, Bool, true, false, ◌||◌, Result, Ok, Err, length, map, slice_get}
use Rattle.std.specs.List.{flat_map, list_any}
use Rattle.std.specs.Option.{option_and_then}
use Rattle.row_types.specs.declared.value.Value.{Value}
use Rattle.tier_base.specs.declared.number.Position.{Position}
use Rattle.tier_base.specs.declared.number.TableId.{TableId}
use Rattle.table_defs.specs.Declarations.{foreign_places}
use Rattle.indexed_rows.specs.Rows.{is_same, key_of}
use Rattle.table_state.specs.declared.footprint.RowKey.{RowKey}
use Rattle.table_state.specs.declared.history.Entry.{Entry}
use Rattle.table_state.specs.Histories.{state_at, state_of}
use Rattle.table_state.specs.Tables.{TableState}
use Rattle.change_log.specs.declared.log.RowChange.{RowChange}
use Rattle.change_log.specs.Logs.{IsChanged}
use Rattle.instances.specs.declared.tree.Child.{Child}
use Rattle.instances.specs.declared.tree.Tree.{Tree}
use Rattle.instances.specs.Roots.{root_of}
use Rattle.instances.specs.Trees.{place_of, table_of}
use Rattle.outside.specs.Bank.{Grows}
use Rattle.outside.specs.Reaching.{instance_under}
use Rattle.outside.specs.declared.changes.Changes.{Changes}
use Rattle.outside.specs.declared.changes.Touched.{Touched}
use Rattle.outside.specs.declared.fault.BankError.{BankError}

-- the tables of a tree, the root first
abbrev pub tree_tables : Tree → List TableId
tree_tables tree = tree.root.table ∷ map (λ child. child.table) tree.children

abbrev pub is_root : List Value → Option (List Value) → Bool
is_root root None = false
is_root root (Some key) = is_same root key

-- the root key that the row which a child row's foreign key names is reached from
abbrev pub root_above : TableState → Tree → Child → List Value → Option (List Value)
root_above s tree child row =
    option_and_then
    (λ parent.
    option_and_then (λ def. root_of s tree parent (key_of (foreign_places def.foreign_key) row))
    (slice_get s.schema child.table.0))
    (table_of tree child.parent)

-- The root key that the row of a change was reached from: a root row's own key, and of a child row that had a parent
-- row the one that this is reached from now. (Where it was reached from another, it changed itself, or one above it
-- did.)
abbrev pub old_root_at : TableState → Tree → RowChange → ℕ → Option (List Value)
old_root_at s tree change zero = Some change.key
old_root_at s tree change (suc place) =
    option_and_then (λ child. option_and_then (root_above s tree child) change.old) (slice_get tree.children place)

abbrev pub old_root : TableState → Tree → RowChange → Option (List Value)
old_root s tree change = option_and_then (old_root_at s tree change) (place_of tree change.table)

-- the row of the change is in the instance of this root key now, or it was
abbrev pub touches : TableState → Tree → List Value → RowChange → Bool
touches s tree root change =
    is_root root (root_of s tree change.table change.key) || is_root root (old_root s tree change)

-- a row of the instance of this root key changed, came to it or left it
abbrev pub has_changed : TableState → Tree → List RowChange → List Value → Bool
has_changed s tree log root = list_any (touches s tree root) log

-- a want names a row of the instance of this root key: a table and a primary key of it
abbrev pub is_wanted : TableState → Tree → List RowKey → List Value → Bool
is_wanted s tree wants root = list_any (λ want. is_root root (root_of s tree want.table want.key)) wants

-- the instances that are given
abbrev pub is_touched : TableState → Tree → List RowChange → List RowKey → List Value → Bool
is_touched s tree log wants root = has_changed s tree log root || is_wanted s tree wants root

-- the instance of a root key, and whether a want names a row of it
abbrev pub touched_under : TableState → Tree → List RowKey → List Value → Touched
touched_under s tree wants root =
    record { instance = instance_under s tree root; wanted = is_wanted s tree wants root }

-- of one tree the instances that a change touches, and those that a want names, each once
pub record AreTouched (s : TableState) (log : List RowChange) (wants : List RowKey) (tree : Tree)
    (touched : List Touched) : Type 0 where
  pub sound :
      (i : ℕ) (t : Touched) → slice_get touched i ≡ Some t
      → (is_touched s tree log wants t.instance.root ≡ true) × (t ≡ touched_under s tree wants t.instance.root)
  pub once :
      (i j : ℕ) (a b : Touched) → slice_get touched i ≡ Some a → slice_get touched j ≡ Some b
      → a.instance.root ≡ b.instance.root → i ≡ j
  pub whole :
      (root : List Value) → is_touched s tree log wants root ≡ true
      → (i : ℕ) × (t : Touched) × (slice_get touched i ≡ Some t) × (t.instance.root ≡ root)

-- so of each tree
abbrev pub AllTouched : TableState → List RowChange → List RowKey → List Tree → List (List Touched) → Type 0
AllTouched s log wants [] [] = Unit {0}
AllTouched s log wants (tree ∷ trees) (touched ∷ more) =
    AreTouched s log wants tree touched × AllTouched s log wants trees more
AllTouched s log wants [] (touched ∷ more) = ⊥
AllTouched s log wants (tree ∷ trees) [] = ⊥

-- Between two states: one net entry for each key of the trees' tables whose row differs, and of each tree the instances
-- that these touch or that a want names, as they are now.
pub record IsChangesOf (from to : TableState) (trees : List Tree) (wants : List RowKey) (changes : Changes) : Type 0
  where
    pub log : IsChanged (flat_map tree_tables trees) from to changes.log
    pub touched : AllTouched to changes.log wants trees changes.touched

-- since a position of the history, as it is now
pub record TellsChanges (history : List Entry) (since : Position) (trees : List Tree) (wants : List RowKey)
    (changes : Changes) : Type 0 where
  pub position : changes.position.0 ≡ length history
  pub between :
      (from to : TableState) → state_at history since.0 ≡ Some from → state_of history ≡ Some to
      → IsChangesOf from to trees wants changes

-- the changes as the history has them
abbrev pub TakesChanges : Position → List Tree → List RowKey → Result Changes BankError → List Entry → List Entry
    → Type 0
TakesChanges since trees wants (Ok changes) old new = Grows [] old new × TellsChanges new since trees wants changes
TakesChanges since trees wants (Err e) old new = Grows [] old new
