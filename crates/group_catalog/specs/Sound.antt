-- What holds of the tree of a definition that is accepted.

use Rattle.std.specs.Prelude.{◌≡◌, List, [], ◌∷◌, None, Bool, true, false, is_some, map}
use Rattle.std.specs.List.{list_any}
use Rattle.tier_base.specs.declared.number.TableId.{TableId}
use Rattle.instances.specs.declared.tree.Child.{Child}
use Rattle.instances.specs.declared.tree.Tree.{Tree}
use Rattle.instances.specs.Trees.{place_of}
use Rattle.order_laws.specs.Sides.{IsClosed}
use Rattle.table_defs.specs.declared.definition.TableDef.{TableDef}
use Rattle.sql_subset.specs.declared.stmt.CreateGroup.{CreateGroup}
use Rattle.cache_tier.specs.declared.group.GroupDef.{GroupDef}
use Rattle.cache_tier.specs.Groups.{is_defined_on}
use Rattle.cache_tier.specs.Definitions.{IsTreeOf, definition_broken, is_read_only_kind, placed_tables}

abbrev pub AreUnfiltered : List Child → Type 0
AreUnfiltered [] = Unit {0}
AreUnfiltered (c ∷ children) = (c.filter ≡ None) × AreUnfiltered children

-- no table of the tree has a condition
abbrev pub IsUnfiltered : Tree → Type 0
IsUnfiltered tree = (tree.root.filter ≡ None) × AreUnfiltered tree.children

-- the tables of the tree, the root first
abbrev pub tables_of_tree : Tree → List TableId
tables_of_tree tree = tree.root.table ∷ map (λ (c : Child). c.table) tree.children

-- a definition that breaks no rule, with its tree
pub record IsAccepted (schema : List TableDef) (groups : List GroupDef) (d : CreateGroup) (tree : Tree) : Type 0 where
  pub has_writes : Bool
  pub sound : definition_broken schema groups has_writes d ≡ None
  pub tree_of : IsTreeOf (placed_tables schema d) tree

-- no table of a writethrough group has a condition
abbrev pub WritesAll : Type 0
WritesAll =
    (schema : List TableDef) (groups : List GroupDef) (d : CreateGroup) (tree : Tree) → IsAccepted schema groups d tree
    → is_read_only_kind d.kind ≡ false → IsUnfiltered tree

-- no foreign key joins the tables of a writethrough group with others
abbrev pub StandsApart : Type 0
StandsApart =
    (schema : List TableDef) (groups : List GroupDef) (d : CreateGroup) (tree : Tree) → IsAccepted schema groups d tree
    → is_read_only_kind d.kind ≡ false → IsClosed (tables_of_tree tree) schema

-- no table of the group is in another one
abbrev pub HasNewTables : Type 0
HasNewTables =
    (schema : List TableDef) (groups : List GroupDef) (d : CreateGroup) (tree : Tree) → IsAccepted schema groups d tree
    → (t : TableId) → is_some (place_of tree t) ≡ true → list_any (is_defined_on t) groups ≡ false
