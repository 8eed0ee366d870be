-- What the cache shows, and what a session sees. (TimesTen Cache User's Guide, "Cache instances", "Read-only cache
-- groups", "Dynamic cache groups", "Implementing aging on a cache group"; that a read-only group shows one position
-- of the backing history, and a writethrough group the virtual state, is this project's rule.)

use Rattle.std.specs.Prelude.{ℕ, suc, ℤ, List, [], ◌∷◌, Option, Some, None, Bool, true, false, ◌&&◌, int_lt, unwrap_or, slice_get, if◌then◌else◌}
use Rattle.std.specs.Option.{option_and_then}
use Rattle.std.specs.FinMap.{empty, insert, remove, len}
use Rattle.row_types.specs.declared.value.Value.{Value}
use Rattle.row_types.specs.declared.value.Value.TheVariants.{Null, Number, Text, Time}
use Rattle.tier_base.specs.declared.number.TableId.{TableId}
use Rattle.table_defs.specs.declared.definition.TableDef.{TableDef}
use Rattle.table_state.specs.declared.history.Entry.{Entry}
use Rattle.table_state.specs.declared.history.Sealed.{Sealed}
use Rattle.table_state.specs.declared.operation.Op.{Op}
use Rattle.table_state.specs.declared.operation.Op.TheVariants.{Insert, Update, Delete}
use Rattle.table_state.specs.Histories.{state_at, no_tables}
use Rattle.table_state.specs.Tables.{TableState, table_at}
use Rattle.table_state.specs.Changes.{with_table}
use Rattle.indexed_rows.specs.Rows.{Table, value_at}
use Rattle.evaluator.specs.Cascades.{key_in}
use Rattle.instances.specs.declared.tree.Tree.{Tree}
use Rattle.instances.specs.Trees.{place_of}
use Rattle.instances.specs.Views.{kept_at, root_rows, rows_where, with_children}
use Rattle.instances.specs.Roots.{root_of}
use Rattle.cache_tier.specs.declared.group.AgingRule.{AgingRule}
use Rattle.cache_tier.specs.declared.group.AgingRule.TheVariants.{ByTime, LastUse}
use Rattle.cache_tier.specs.Groups.{Group, is_explicit, is_key, is_read_only, group_over}
use Rattle.order_laws.specs.Commits.{virtual_state}
use Rattle.cache_tier.specs.TierStates.{Tier, Session}

-- the instances of a tree whose root row passes a test: for each table their rows of the view
abbrev pub instances_where : TableState → Tree → (List Value → Bool) → List Table
instances_where s tree test = with_children s tree.children (rows_where test (root_rows s tree.root) ∷ [])

-- the time exceeds the horizon; where there is none, each does
abbrev pub is_past : Option ℤ → Value → Bool
is_past None value = true
is_past (Some horizon) (Time seconds) = int_lt horizon seconds
is_past (Some horizon) Null = false
is_past (Some horizon) (Number n) = false
is_past (Some horizon) (Text bytes) = false

abbrev pub exceeds_by : Option AgingRule → Option ℤ → List Value → Bool
exceeds_by None horizon row = true
exceeds_by (Some LastUse) horizon row = true
exceeds_by (Some (ByTime rule)) horizon row = is_past horizon (value_at row rule.column)

-- the aging column of the root row exceeds the group's horizon
abbrev pub exceeds : Group → List Value → Bool
exceeds g row = exceeds_by g.def.aging g.horizon row

-- the key of a root row
abbrev pub root_key : TableState → Group → List Value → List Value
root_key s g row = key_in (slice_get s.schema g.def.tree.root.table.0) row

-- the root row is of an instance that is shown
abbrev pub shows_root : TableState → Group → List Value → Bool
shows_root s g row =
    if is_read_only g then (if is_explicit g then g.loaded else is_key g.keys (root_key s g row)) && exceeds g row
    else is_key g.keys (root_key s g row)

-- the instances of a group that are shown of a state
abbrev pub shown_in : TableState → Group → List Table
shown_in s g = instances_where s g.def.tree (shows_root s g)

-- the state that a group is a cache of: the backing state at its position, or the virtual state
abbrev pub state_behind : List Entry → List Sealed → Group → Option TableState
state_behind history log g =
    if is_read_only g then option_and_then (state_at history) g.position else virtual_state history log

abbrev pub shown_where : Option TableState → Group → List Table
shown_where None g = []
shown_where (Some s) g = shown_in s g

-- What a group shows: for each table of its tree the rows of its instances. A read-only group shows those of its view
-- at its position that exceed the horizon, a dynamic one of its key list alone, and one that isn't loaded none; a
-- writethrough group those of its key list in the virtual state.
abbrev pub shown : List Entry → List Sealed → Group → List Table
shown history log g = shown_where (state_behind history log g) g

-- the rows of a table among them
abbrev pub table_of_group : List Entry → List Sealed → TableId → Option Group → Table
table_of_group history log t None = empty
table_of_group history log t (Some g) = kept_at (shown history log g) (unwrap_or (place_of g.def.tree t) 0)

abbrev pub shown_table : List Entry → Tier → TableId → Table
shown_table history t table = table_of_group history t.log table (group_over t.groups table)

abbrev pub tables_from : (TableId → Table) → ℕ → List TableDef → List Table
tables_from rows place [] = []
tables_from rows place (def ∷ defs) = rows (record { 0 = place }) ∷ tables_from rows (suc place) defs

-- all that the cache shows, as a table state: a table that isn't cached has no rows
abbrev pub shown_state : List Entry → Tier → TableState
shown_state history t = record { schema = t.schema; tables = tables_from (shown_table history t) 0 t.schema }

-- the tables without rows
abbrev pub no_rows : Tier → TableState
no_rows t = record { schema = t.schema; tables = [] }

-- one table of a state is changed by a row's key
abbrev pub changed_at : TableState → TableId → List Value → (Table → List Value → Table) → TableState
changed_at s t row change = with_table s t (change (table_at s t) (key_in (slice_get s.schema t.0) row))

-- an operation over shown rows: its row is there at its key, or none
abbrev pub over : Op → TableState → TableState
over (Insert t row) s = changed_at s t row (λ table key. insert table key row)
over (Update t old new) s = changed_at s t new (λ table key. insert table key new)
over (Delete t old) s = changed_at s t old remove

-- operations over shown rows, from left to right
abbrev pub all_over : List Op → TableState → TableState
all_over [] s = s
all_over (op ∷ ops) s = all_over ops (over op s)

-- what a session sees: the shown rows with its own uncommitted writes over them
abbrev pub seen_by : Session → List Entry → Tier → TableState
seen_by s history t = all_over s.own (shown_state history t)

-- where a session's keys must be new: the virtual state with its own writes over it
abbrev pub written_on : Session → List Entry → Tier → TableState
written_on s history t = all_over s.own (unwrap_or (virtual_state history t.log) no_tables)

-- how many instances of a group are shown, and their root keys in key order
abbrev pub shown_roots : List Entry → List Sealed → Group → Table
shown_roots history log g = kept_at (shown history log g) 0

abbrev pub instances_of : List Entry → List Sealed → Group → ℕ
instances_of history log g = len (shown_roots history log g)

-- the root key of the instance that a row of a table and a key is in, in this state
abbrev pub instance_key : TableState → Group → TableId → List Value → Option (List Value)
instance_key s g t key = root_of s g.def.tree t key
