-- Row locks: the keys that sessions hold by their uncommitted writes. (This project's rule: a lock is never waited
-- for.)

use Rattle.std.specs.Prelude.{ℕ, List, [], ◌∷◌, ◌++◌, Option, None, Bool, ◌||◌, find, map, is_some}
use Rattle.std.specs.List.{list_any}
use Rattle.std.specs.Option.{option_map, option_or}
use Rattle.std.specs.FinMap.{entries}
use Rattle.tier_base.specs.declared.code.Code.TheVariants as code
use Rattle.tier_base.specs.declared.number.TableId.{TableId}
use Rattle.row_types.specs.declared.rule.Detail.TheVariants as detail
use Rattle.row_types.specs.declared.rule.Rule.{Rule}
use Rattle.row_types.specs.declared.value.Value.{Value}
use Rattle.indexed_rows.specs.Rows.{Table}
use Rattle.instances.specs.declared.tree.Tree.{Tree}
use Rattle.table_defs.specs.declared.definition.TableDef.{TableDef}
use Rattle.table_state.specs.declared.footprint.RowKey.{RowKey}
use Rattle.table_state.specs.declared.history.Entry.{Entry}
use Rattle.table_state.specs.declared.operation.Op.{Op}
use Rattle.table_state.specs.Operations.{table_of}
use Rattle.table_state.specs.Tables.{TableState}
use Rattle.table_state.specs.Footprints.{footprint_of, is_among, is_in, referred_by, written_by}
use Rattle.cache_tier.specs.Groups.{Group, covers, is_key}
use Rattle.cache_tier.specs.Shown.{instances_where, root_key, all_over, shown_state}
use Rattle.cache_tier.specs.TierStates.{Session, Tier, others}

-- the session has written the key, or holds it in some way
abbrev pub has_written : List TableDef → RowKey → Session → Bool
has_written schema key s = is_among (footprint_of schema s.own).written key

abbrev pub holds : List TableDef → RowKey → Session → Bool
holds schema key s = is_in (footprint_of schema s.own) key

-- the one that wrote the key; if none did, the one opened earliest that holds it
abbrev pub holder : List TableDef → List Session → RowKey → Option Session
holder schema sessions key = option_or (find (has_written schema key) sessions) (find (holds schema key) sessions)

-- whose lock a key meets: a key that is written meets each, one that is named as parent meets that of the one that
-- wrote it
abbrev pub written_lock : List TableDef → List Session → RowKey → Option Session
written_lock schema sessions key = holder schema sessions key

abbrev pub parent_lock : List TableDef → List Session → RowKey → Option Session
parent_lock schema sessions key = find (has_written schema key) sessions

-- the first of what several give
abbrev pub first_of_all : {A B : Type 0} → (A → Option B) → List A → Option B
first_of_all f [] = None
first_of_all f (x ∷ xs) = option_or (f x) (first_of_all f xs)

-- of an operation: the written key, then the parents that the old row and the new one name
abbrev pub op_lock : List TableDef → List Session → Op → Option Session
op_lock schema sessions op =
    option_or (first_of_all (written_lock schema sessions) (written_by schema op))
    (first_of_all (parent_lock schema sessions) (referred_by schema op))

-- 111: the label of the session whose lock the first operation meets that meets one
abbrev pub locked_by : Session → Rule
locked_by s = record { code = code.Locked; detail = detail.Label s.label }

abbrev pub lock_fault : List ℕ → Tier → List Op → Option Rule
lock_fault label t ops = option_map locked_by (first_of_all (op_lock t.schema (others label t)) ops)

-- the keys of the rows of these tables, the first of which is that of the root
abbrev pub keys_in_table : TableId → Table → List RowKey
keys_in_table t rows = map (λ e. record { table = t; key = e.0 }) (entries rows)

abbrev pub keys_in_children : List TableId → List Table → List RowKey
keys_in_children [] tables = []
keys_in_children (t ∷ ts) [] = []
keys_in_children (t ∷ ts) (rows ∷ tables) = keys_in_table t rows ++ keys_in_children ts tables

abbrev pub tree_tables : Tree → List TableId
tree_tables tree = tree.root.table ∷ map (λ child. child.table) tree.children

-- the keys of the rows of the instances with these root keys, in a state
abbrev pub instance_rows : TableState → Group → (List Value → Bool) → List RowKey
instance_rows s g test =
    keys_in_children (tree_tables g.def.tree) (instances_where s g.def.tree (λ row. test (root_key s g row)))

-- A session has uncommitted writes in one of these instances: it holds the key of a row that is in the instance as
-- shown, or as it is with that session's writes over it.
abbrev pub has_writes_in : List Entry → Tier → Group → (List Value → Bool) → Session → Bool
has_writes_in history t g test s =
    list_any (λ key. holds t.schema key s) (instance_rows (shown_state history t) g test)
    || list_any (λ key. holds t.schema key s) (instance_rows (all_over s.own (shown_state history t)) g test)

-- the one opened earliest that has
abbrev pub writer_in : List Entry → Tier → List Session → Group → (List Value → Bool) → Option Session
writer_in history t sessions g test = find (has_writes_in history t g test) sessions

-- 111 of UNLOAD: another session has written in one of these instances
abbrev pub instance_lock : List ℕ → List Entry → Tier → Group → (List Value → Bool) → Option Rule
instance_lock label history t g test = option_map locked_by (writer_in history t (others label t) g test)

-- some session has uncommitted writes in the instance of this key
abbrev pub is_busy : List Entry → Tier → Group → List Value → Bool
is_busy history t g key = is_some (writer_in history t t.sessions g (λ other. is_key (key ∷ []) other))

-- one of the operations is on a table of the group
abbrev pub writes_on : Group → List Op → Bool
writes_on g ops = list_any (λ op. covers (table_of op) g) ops

-- 111 of DROP: another session has uncommitted writes on a table of the group; the one opened earliest that has
abbrev pub group_lock : List ℕ → Tier → Group → Option Rule
group_lock label t g = option_map locked_by (find (λ s. writes_on g s.own) (others label t))
