-- What a cache group covers: its tables, the root first, each child behind its parent. (TimesTen Cache User's Guide,
-- "Cache groups": one root table; each child table refers by a foreign key to the root table or to another child
-- table.)

use Rattle.std.specs.Prelude.{ℕ, zero, suc, List, [], ◌∷◌, Option, Some, None, Bool, true, false, ◌&&◌, nat_eq, nat_le, is_some, position, slice_get, if◌then◌else◌}
use Rattle.std.specs.Option.{option_and_then, option_map}
use Rattle.expressions.specs.tier_base.specs.declared.number.TableId.{TableId}
use Rattle.table_state.specs.table_defs.specs.declared.definition.TableDef.{TableDef}
use Rattle.table_state.specs.table_defs.specs.declared.definition.ForeignKey.{ForeignKey}
use Rattle.instances.specs.declared.tree.Child.{Child}
use Rattle.instances.specs.declared.tree.Tree.{Tree}

abbrev pub same_table : TableId → TableId → Bool
same_table a b = nat_eq a.0 b.0

-- the place of a table in the tree, the root's is 0
abbrev pub place_of : Tree → TableId → Option ℕ
place_of tree t =
    if same_table tree.root.table t then Some 0 else option_map suc
    (position (λ child. same_table child.table t) tree.children)

-- the table at a place
abbrev pub table_of : Tree → ℕ → Option TableId
table_of tree zero = Some tree.root.table
table_of tree (suc place) = option_map (λ child. child.table) (slice_get tree.children place)

abbrev pub is_parent : Option TableId → Option ForeignKey → Bool
is_parent (Some t) (Some foreign) = same_table foreign.parent t
is_parent (Some t) None = false
is_parent None foreign = false

abbrev pub is_place : ℕ → Option ℕ → Bool
is_place place None = false
is_place place (Some other) = nat_eq other place

-- the table stands at this place first, and its foreign key refers to the table at the parent's place, which is an
-- earlier one
abbrev pub is_sound_child : List TableDef → Tree → ℕ → Child → Bool
is_sound_child schema tree place child =
    is_place (suc place) (place_of tree child.table) && nat_le child.parent place
    && is_parent (table_of tree child.parent)
    (option_and_then (λ def. def.foreign_key) (slice_get schema child.table.0))

-- the children from a place on
abbrev pub are_sound : List TableDef → Tree → ℕ → List Child → Bool
are_sound schema tree place [] = true
are_sound schema tree place (child ∷ children) = is_sound_child schema tree place child
    && are_sound schema tree (suc place) children

-- the tables are there, each once, and each child's foreign key refers to its parent, which stands before it
abbrev pub is_sound : List TableDef → Tree → Bool
is_sound schema tree = is_some (slice_get schema tree.root.table.0) && are_sound schema tree 0 tree.children
