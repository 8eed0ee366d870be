-- A store's own tables as a state.
use Rattle.std.specs.Prelude.{◌≡◌, ℕ, List, Some, None, Bool, ◌&&◌, not, map}
use Rattle.instances.specs.row_types.specs.declared.value.Value.{Value}
use Rattle.instances.specs.tier_base.specs.declared.number.TableId.{TableId}
use Rattle.instances.specs.indexed_rows.specs.Rows.{Table, is_same}
use Rattle.instances.specs.table_state.specs.Tables.{TableState, table_at}
use Rattle.instances.specs.declared.tree.Child.{Child}
use Rattle.instances.specs.declared.tree.Tree.{Tree}
use Rattle.instances.specs.Trees.{table_of}
use Rattle.instances.specs.Views.{instance_of, kept_at}
use Rattle.cache_store.specs.Shown.{tables_without, shown_of}

-- without its WHERE
abbrev pub plain_child : Child → Child
plain_child c = record { table = c.table; filter = None; parent = c.parent }

abbrev pub plain : Tree → Tree
plain tree =
    record { root = record { table = tree.root.table; filter = None }; children = map plain_child tree.children }

-- a state whose tables of the tree are these
pub record Owns (own : TableState) (s : TableState) (tree : Tree) (tables : List Table) : Type 0 where
  pub schema : own.schema ≡ s.schema
  pub rows : (place : ℕ) (t : TableId) → table_of tree place ≡ Some t → table_at own t ≡ kept_at tables place

-- where a store shows the instances of some roots, the instance of a root key among its own rows, reached by foreign
-- keys alone, is that root's where it is one of these, and without it the store shows the others
abbrev pub DropsOwn : TableState → TableState → Tree → Type 0
DropsOwn own s tree =
    (p : List Value → Bool) (root : List Value) → Owns own s tree (shown_of s tree p) →
    (instance_of own (plain tree) root ≡ shown_of s tree (λ k. p k && is_same k root)) ×
    (tables_without (shown_of s tree p) (instance_of own (plain tree) root)
    ≡ shown_of s tree (λ k. p k && not (is_same k root)))
