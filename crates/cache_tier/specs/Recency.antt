-- Which instances a statement uses, and what a commit makes of the key lists. (TimesTen Cache User's Guide, "LRU
-- aging"; the order in which one statement uses several is this project's rule.)

use Rattle.std.specs.Prelude.{List, [], ◌∷◌, ◌++◌, Option, Some, None, map, fold, if◌then◌else◌, slice_get}
use Rattle.std.specs.List.{filter, flat_map}
use Rattle.std.specs.FinMap.{empty, insert, keys, remove, values}
use Rattle.row_types.specs.declared.value.Value.{Value}
use Rattle.indexed_rows.specs.Rows.{Table}
use Rattle.tier_base.specs.declared.number.TableId.{TableId}
use Rattle.table_state.specs.declared.footprint.RowKey.{RowKey}
use Rattle.table_state.specs.declared.operation.Op.{Op}
use Rattle.table_state.specs.declared.operation.Op.TheVariants.{Insert, Update, Delete}
use Rattle.table_state.specs.Operations.{table_of}
use Rattle.table_state.specs.Tables.{TableState, table_at}
use Rattle.evaluator.specs.declared.plan.Plan.{Plan}
use Rattle.evaluator.specs.Cascades.{key_in}
use Rattle.evaluator.specs.Writes.{selects}
use Rattle.instances.specs.Trees.{same_table}
use Rattle.instances.specs.Views.{is_true}
use Rattle.cache_tier.specs.Groups.{Group, covers, is_writethrough, used, without_keys}
use Rattle.cache_tier.specs.Shown.{instance_key, root_key}
use Rattle.cache_tier.specs.TierStates.{Tier}

-- a row of a table in a combination of a query
pub record Chosen : Type 0 where
  pub table : TableId
  pub row : List Value

-- all combinations of one row of each table, in the order of the query
abbrev pub combinations : TableState → List TableId → List (List Chosen)
combinations s [] = [] ∷ []
combinations s (t ∷ tables) =
    flat_map (λ row. map (λ others. record { table = t; row = row } ∷ others) (combinations s tables))
    (values (table_at s t))

abbrev pub beside : List Chosen → List Value
beside chosen = flat_map (λ c. c.row) chosen

-- the rows of the selected combinations, combination by combination, in FROM order
abbrev pub selected_rows : Plan → TableState → List Chosen
selected_rows plan s =
    flat_map (λ chosen. chosen)
    (filter (λ chosen. is_true (selects plan.filter (beside chosen))) (combinations s plan.tables))

abbrev pub row_key : TableState → Chosen → RowKey
row_key s c = record { table = c.table; key = key_in (slice_get s.schema c.table.0) c.row }

abbrev pub used_root : Option (List Value) → Group → Group
used_root None g = g
used_root (Some root) g = record g { keys = used root g.keys }

-- the group's instance of a row is used, where it has one
abbrev pub used_row : TableState → RowKey → Group → Group
used_row s key g = used_root (instance_key s g key.table key.key) g

abbrev pub used_rows : TableState → List RowKey → Group → Group
used_rows s rows g = fold (λ h row. used_row s row h) g (filter (λ row. covers row.table g) rows)

-- each group's instances of these rows are used, one after the other
abbrev pub after_use : TableState → List RowKey → Tier → Tier
after_use s rows t = record t { groups = map (used_rows s rows) t.groups }

abbrev pub after_query : Plan → TableState → Tier → Tier
after_query plan s t = after_use s (map (row_key s) (selected_rows plan s)) t

-- the instance that an operation changes before it, and the one behind it: of a moved row the old one, then the new one
abbrev pub op_key : TableState → Op → RowKey
op_key s (Insert t row) = row_key s (record { table = t; row = row })
op_key s (Update t old new) = row_key s (record { table = t; row = old })
op_key s (Delete t old) = row_key s (record { table = t; row = old })

-- the operations are done, each over the state that those before it leave: what they use is used
abbrev pub used_by_ops : (Op → TableState → TableState) → List Op → TableState → Group → Group
used_by_ops step [] s g = g
used_by_ops step (op ∷ ops) s g =
    used_by_ops step ops (step op s)
    (if covers (table_of op) g then used_row (step op s) (op_key s op) (used_row s (op_key s op) g) else g)

abbrev pub after_writes : (Op → TableState → TableState) → List Op → TableState → Tier → Tier
after_writes step ops s t = record t { groups = map (used_by_ops step ops s) t.groups }

-- the root rows that operations insert and leave there, by key, and the keys of those that they delete
abbrev pub entered_by : TableState → Group → Op → Table → Table
entered_by s g (Insert t row) rows =
    if same_table g.def.tree.root.table t then insert rows (root_key s g row) row else rows
entered_by s g (Update t old new) rows = rows
entered_by s g (Delete t old) rows =
    if same_table g.def.tree.root.table t then remove rows (root_key s g old) else rows

abbrev pub entered : TableState → Group → List Op → Table
entered s g ops = fold (λ rows op. entered_by s g op rows) empty ops

abbrev pub left_by : TableState → Group → Op → List (List Value)
left_by s g (Insert t row) = []
left_by s g (Update t old new) = []
left_by s g (Delete t old) = if same_table g.def.tree.root.table t then root_key s g old ∷ [] else []

-- keys come behind the others, those too that were there
abbrev pub with_entered : List (List Value) → List (List Value) → List (List Value) → List (List Value)
with_entered new left old = without_keys (left ++ new) old ++ new

-- A commit: the keys of roots that it deleted leave the list, and those of roots that it inserted come behind it, in
-- key order.
abbrev pub with_commit : TableState → List Op → Group → Group
with_commit s ops g =
    if is_writethrough g
    then record g { keys = with_entered (keys (entered s g ops)) (flat_map (left_by s g) ops) g.keys }
    else g
