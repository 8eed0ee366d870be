-- A store that keeps what its group shows of a state, and what its calls leave of that. (TimesTen Cache User's Guide,
-- "Cache instances": loading, unloading and aging act on whole instances.)
use Rattle.std.specs.Prelude.{◌≡◌, ℕ, List, [], ◌∷◌, Some, None, Bool, true, ◌&&◌, ◌||◌, not, map, slice_get, unwrap_or}
use Rattle.std.specs.Option.{option_map}
use Rattle.std.specs.FinMap.{values}
use Rattle.slot_rows.specs.row_types.specs.declared.value.Value.{Value}
use Rattle.slot_rows.specs.tier_base.specs.declared.number.TableId.{TableId}
use Rattle.cache_store.specs.table_defs.specs.declared.definition.TableDef.{TableDef}
use Rattle.slot_rows.specs.indexed_rows.specs.Rows.{is_same, key_of}
use Rattle.cache_store.specs.table_state.specs.declared.operation.Op.{Op}
use Rattle.cache_store.specs.table_state.specs.declared.operation.Op.TheVariants.{Delete, Insert, Update}
use Rattle.cache_store.specs.table_state.specs.Operations.{applied, table_of as op_table}
use Rattle.cache_store.specs.table_state.specs.Sound.{IsTableState}
use Rattle.cache_store.specs.table_state.specs.Tables.{TableState}
use Rattle.cache_store.specs.instances.specs.declared.tree.Child.{Child}
use Rattle.cache_store.specs.instances.specs.declared.tree.Tree.{Tree}
use Rattle.cache_store.specs.instances.specs.Trees.{is_sound, place_of}
use Rattle.cache_store.specs.instances.specs.Views.{instance_of}
use Rattle.cache_store.specs.Operating.{IsChosen}
use Rattle.cache_store.specs.Shown.{is_among, shown_of}
use Rattle.group_store.specs.Trees.{Layer}
use Rattle.group_store.specs.Stores.{Kept, cut_store, op_done, ops_done, put_tables}
use Rattle.group_store.specs.Shown.{foreign_key_of}

-- the columns of a table's primary key
abbrev pub primary_of : List TableDef → TableId → List ℕ
primary_of schema t = unwrap_or (option_map (λ def. def.primary_key) (slice_get schema t.0)) []

abbrev pub layer_for : List TableDef → Child → Layer
layer_for schema c =
    record {
      table = c.table;
      key = primary_of schema c.table;
      foreign = foreign_key_of schema c.table;
      parent = c.parent;
    }

-- the store has the tables of a tree, with their keys
pub record IsFor (schema : List TableDef) (tree : Tree) (s : Kept) : Type 0 where
  pub table : s.table ≡ tree.root.table
  pub key : s.key ≡ primary_of schema tree.root.table
  pub foreign : s.foreign ≡ foreign_key_of schema tree.root.table
  pub layers : s.layers ≡ map (layer_for schema) tree.children

-- the store has what its group shows of a state for the roots that pass a test
pub record KeepsShown (state : TableState) (tree : Tree) (p : List Value → Bool) (s : Kept) : Type 0 where
  pub form : IsFor state.schema tree s
  pub tables : s.tables ≡ shown_of state tree p

-- without a root's instance it has what is shown of the other roots
abbrev pub KeepsOthers : TableState → Tree → Type 0
KeepsOthers state tree =
    (p : List Value → Bool) (root : List Value) (s : Kept) → KeepsShown state tree p s →
    KeepsShown state tree (λ k. p k && not (is_same k root)) (cut_store 0 root s)

-- with a root's instance, as the state has it, it has what is shown of one root more
abbrev pub KeepsOneMore : TableState → Tree → Type 0
KeepsOneMore state tree =
    (p : List Value → Bool) (root : List Value) (s : Kept) → IsTableState state → is_sound state.schema tree ≡ true →
    KeepsShown state tree p s →
    KeepsShown state tree (λ k. p k || is_same k root) (put_tables 0 (map values (instance_of state tree root)) s)

-- no table of the tree has a WHERE
pub record HasNoFilter (tree : Tree) : Type 0 where
  pub root : tree.root.filter ≡ None
  pub children : (i : ℕ) (c : Child) → slice_get tree.children i ≡ Some c → c.filter ≡ None

-- the row of an operation is of an instance whose root passes: one that comes behind the operation, one that goes
-- before it, and one that becomes another before and behind it
abbrev pub IsOfChosen : Op → TableState → TableState → Tree → (List Value → Bool) → (List Value → Bool) → ℕ → Type 0
IsOfChosen (Insert t row) s new tree p q at = IsChosen new tree q at (key_of (primary_of s.schema t) row)
IsOfChosen (Update t old row) s new tree p q at =
    IsChosen s tree p at (key_of (primary_of s.schema t) row) ×
    IsChosen new tree p at (key_of (primary_of s.schema t) row)
IsOfChosen (Delete t old) s new tree p q at = IsChosen s tree p at (key_of (primary_of s.schema t) old)

-- an operation applies, and where its table is one of the tree its row is of an instance of the store
pub record StepsOn (op : Op) (s new : TableState) (tree : Tree) (k : Kept) : Type 0 where
  pub applies : applied op s ≡ Some new
  pub chosen : (at : ℕ) → place_of tree (op_table op) ≡ Some at →
      IsOfChosen op s new tree (is_among k.keys) (is_among (op_done op k).keys) at

-- operations do, one after another
abbrev pub RunsOn : List Op → TableState → TableState → Tree → Kept → Type 0
RunsOn [] s new tree k = new ≡ s
RunsOn (op ∷ ops) s new tree k =
    (mid : TableState) × StepsOn op s mid tree k × RunsOn ops mid new tree (op_done op k)

-- the store has then what its group shows of the state behind them
abbrev pub KeepsPace : TableState → TableState → Tree → Type 0
KeepsPace s new tree =
    (ops : List Op) (k : Kept) → IsTableState s → is_sound s.schema tree ≡ true → HasNoFilter tree →
    KeepsShown s tree (is_among k.keys) k → RunsOn ops s new tree k →
    KeepsShown new tree (is_among (ops_done ops k).keys) (ops_done ops k)
