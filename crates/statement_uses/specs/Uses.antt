-- Which instances a statement uses, group by group, as lists of root keys. (TimesTen Cache User's Guide, "LRU aging".)

use Rattle.std.specs.Prelude.{◌≡◌, ℕ, List, [], ◌∷◌, ◌++◌, Bool, true, false, ◌&&◌, ◌||◌, Option, Some, None, fold, map, option_to_list, slice_get, unwrap_or}
use Rattle.std.specs.List.{flat_map}
use Rattle.row_types.specs.declared.value.Value.{Value}
use Rattle.table_state.specs.declared.footprint.RowKey.{RowKey}
use Rattle.table_state.specs.declared.operation.Op.{Op}
use Rattle.table_state.specs.Tables.{TableState}
use Rattle.evaluator.specs.declared.plan.Plan.{Plan}
use Rattle.instances.specs.declared.tree.Tree.{Tree}
use Rattle.instances.specs.Roots.{root_of}
use Rattle.cache_tier.specs.declared.group.AgingRule.{AgingRule}
use Rattle.cache_tier.specs.declared.group.AgingRule.TheVariants.{ByTime, LastUse}
use Rattle.cache_tier.specs.Groups.{Group, has_list, used}
use Rattle.cache_tier.specs.Recency.{op_key, row_key, selected_rows}
use Rattle.cache_tier.specs.Shown.{over}

-- instances leave by last use
abbrev pub leaves_by_use : Option AgingRule → Bool
leaves_by_use None = false
leaves_by_use (Some LastUse) = true
leaves_by_use (Some (ByTime rule)) = false

-- the order of last use counts in the group: it shows the instances of a list, and they leave so
abbrev pub keeps_order : Group → Bool
keeps_order g = has_list g && leaves_by_use g.def.aging

-- which keys are listed counts, or in what order
abbrev pub keeps_list : Group → Bool
keeps_list g = g.def.dynamic || keeps_order g

-- keys are used, one after another
abbrev pub used_all : List (List Value) → List (List Value) → List (List Value)
used_all roots keys = fold (λ old root. used root old) keys roots

-- the root key that a row is reached from, where it is one of the tree
abbrev pub roots_of_row : TableState → Tree → RowKey → List (List Value)
roots_of_row s tree row = option_to_list (root_of s tree row.table row.key)

-- the same of several rows
abbrev pub roots_of_rows : TableState → Tree → List RowKey → List (List Value)
roots_of_rows s tree rows = flat_map (roots_of_row s tree) rows

-- those of the rows that a query selects
abbrev pub roots_of_query : TableState → Plan → Group → List (List Value)
roots_of_query s plan g = roots_of_rows s g.def.tree (map (row_key s) (selected_rows plan s))

-- the root key that an operation's row is reached from before it, and the one behind it
abbrev pub roots_of_op : TableState → Tree → Op → List (List Value)
roots_of_op s tree op = roots_of_row s tree (op_key s op) ++ roots_of_row (over op s) tree (op_key s op)

-- operations, each over the state that those before it leave
abbrev pub roots_of_ops : List Op → TableState → Tree → List (List Value)
roots_of_ops [] s tree = []
roots_of_ops (op ∷ ops) s tree = roots_of_op s tree op ++ roots_of_ops ops (over op s) tree

-- the keys of the group at a place; none past the end
abbrev pub keys_at : List (List (List Value)) → ℕ → List (List Value)
keys_at uses place = unwrap_or (slice_get uses place) []

-- for each group of a kind these are its keys
abbrev pub HaveKeys : (Group → Bool) → List Group → (Group → List (List Value)) → List (List (List Value)) → Type 0
HaveKeys test groups keys uses =
    (place : ℕ) (g : Group) → slice_get groups place ≡ Some g → test g ≡ true → keys_at uses place ≡ keys g

-- for each group in which the order of last use counts they are those that are used
abbrev pub HaveUses : List Group → (Group → List (List Value)) → List (List (List Value)) → Type 0
HaveUses = HaveKeys keeps_order
