-- The root key that a row is reached from. (TimesTen Cache User's Guide, "Cache instances": the root table's primary
-- key identifies an instance.)

use Rattle.std.specs.Prelude.{ℕ, zero, suc, List, Option, Some, None, length, slice_get, if◌then◌else◌}
use Rattle.std.specs.Option.{option_and_then, option_map}
use Rattle.std.specs.FinMap.{contains_key, get}
use Rattle.expressions.specs.row_types.specs.declared.value.Value.{Value}
use Rattle.expressions.specs.tier_base.specs.declared.number.TableId.{TableId}
use Rattle.table_state.specs.table_defs.specs.Declarations.{foreign_places}
use Rattle.table_state.specs.indexed_rows.specs.Rows.{key_of}
use Rattle.table_state.specs.Tables.{TableState, table_at}
use Rattle.instances.specs.declared.tree.Child.{Child}
use Rattle.instances.specs.declared.tree.Tree.{Tree}
use Rattle.instances.specs.Trees.{place_of}

-- the key that the foreign key of this key's row names
abbrev pub parent_key : TableState → Child → List Value → Option (List Value)
parent_key s child key =
    option_and_then (λ row. option_map (λ def. key_of (foreign_places def.foreign_key) row)
    (slice_get s.schema child.table.0)) (get (table_at s child.table) key)

-- the root key that the row of a key is reached from in the table at a place, over at most n foreign keys; none where a
-- row on the way isn't there
abbrev pub root_within : ℕ → TableState → Tree → ℕ → List Value → Option (List Value)
root_within n s tree zero key = if contains_key (table_at s tree.root.table) key then Some key else None
root_within zero s tree (suc place) key = None
root_within (suc n) s tree (suc place) key =
    option_and_then (λ child. option_and_then (root_within n s tree child.parent) (parent_key s child key))
    (slice_get tree.children place)

-- over as many foreign keys as the tree has children
abbrev pub root_at : TableState → Tree → ℕ → List Value → Option (List Value)
root_at s tree place key = root_within (length tree.children) s tree place key

-- the root key that the row of a table and a key is reached from
abbrev pub root_of : TableState → Tree → TableId → List Value → Option (List Value)
root_of s tree t key = option_and_then (λ place. root_at s tree place key) (place_of tree t)
