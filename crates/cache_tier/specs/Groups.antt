-- Cache groups as the tier keeps them. (TimesTen Cache User's Guide, "Cache groups", "Read-only cache groups",
-- "Asynchronous writethrough", "Synchronous writethrough", "Dynamic cache groups"; TimesTen SQL Reference, "CREATE
-- CACHE GROUP".)

use Rattle.std.specs.Prelude.{ℕ, ℤ, List, [], ◌∷◌, ◌++◌, Option, Bool, true, false, ◌&&◌, ◌||◌, not, is_some, slice_get, position, map, filter, if◌then◌else◌}
use Rattle.std.specs.List.{list_any}
use Rattle.std.specs.Option.{option_and_then}
use Rattle.row_types.specs.declared.value.Value.{Value}
use Rattle.tier_base.specs.declared.number.TableId.{TableId}
use Rattle.table_defs.specs.Names.{same_name}
use Rattle.indexed_rows.specs.Rows.{is_same}
use Rattle.instances.specs.Trees.{place_of}
use Rattle.sql_subset.specs.declared.stmt.GroupKind.{GroupKind}
use Rattle.sql_subset.specs.declared.stmt.GroupKind.TheVariants.{ReadOnly, AsynchronousWritethrough, SynchronousWritethrough, UserManaged}
use Rattle.sql_subset.specs.declared.stmt.RefreshState.{RefreshState}
use Rattle.sql_subset.specs.declared.stmt.RefreshState.TheVariants.{On, Off, Paused}
use Rattle.cache_tier.specs.declared.group.GroupDef.{GroupDef}

-- A group: its definition, and what changes.
--   first     the first ticket that may be of its tables: the next one at its definition
--   state     AUTOREFRESH STATE, of a READONLY group
--   loaded    an explicit READONLY group shows its view; of a writethrough group it says what a recovery loads
--   keys      of a dynamic or writethrough group: the root keys that it has, the one that was used last at the end
--   position  the position in the backing history at which a READONLY group was refreshed last
--   horizon   instances whose time is at or under it have left
--   aged      the moment of its last aging cycle, or of its definition or recovery
-- A user-managed group will have its rows here, too.
pub record Group : Type 0 where
  pub def : GroupDef
  pub first : ℕ
  pub state : RefreshState
  pub loaded : Bool
  pub keys : List (List Value)
  pub position : Option ℕ
  pub horizon : Option ℤ
  pub aged : ℕ

abbrev pub is_read_only : Group → Bool
is_read_only g = by_kind g.def.kind
  where
    by_kind : GroupKind → Bool
    by_kind ReadOnly = true
    by_kind AsynchronousWritethrough = false
    by_kind SynchronousWritethrough = false
    by_kind UserManaged = false

abbrev pub is_synchronous : Group → Bool
is_synchronous g = by_kind g.def.kind
  where
    by_kind : GroupKind → Bool
    by_kind ReadOnly = false
    by_kind AsynchronousWritethrough = false
    by_kind SynchronousWritethrough = true
    by_kind UserManaged = false

abbrev pub is_writethrough : Group → Bool
is_writethrough g = not (is_read_only g)

abbrev pub is_asynchronous : Group → Bool
is_asynchronous g = is_writethrough g && not (is_synchronous g)

-- a group that isn't loaded on demand
abbrev pub is_explicit : Group → Bool
is_explicit g = not g.def.dynamic

-- it shows the instances of a list of keys, and not its whole view
abbrev pub has_list : Group → Bool
has_list g = g.def.dynamic || is_writethrough g

abbrev pub is_on : RefreshState → Bool
is_on On = true
is_on Off = false
is_on Paused = false

abbrev pub is_paused : RefreshState → Bool
is_paused On = false
is_paused Off = false
is_paused Paused = true

-- one of the tables that it defines
abbrev pub is_defined_on : TableId → GroupDef → Bool
is_defined_on t def = is_some (place_of def.tree t)

-- one of its tables
abbrev pub covers : TableId → Group → Bool
covers t g = is_defined_on t g.def

-- it defines this name
abbrev pub defines_name : List ℕ → GroupDef → Bool
defines_name name def = same_name def.name name

-- it has this name
abbrev pub is_called : List ℕ → Group → Bool
is_called name g = defines_name name g.def

-- the definitions of groups
abbrev pub definitions_of : List Group → List GroupDef
definitions_of groups = map (λ g. g.def) groups

-- the place of the group of a name among all, and of the one that has a table
abbrev pub place_called : List Group → List ℕ → Option ℕ
place_called groups name = position (is_called name) groups

abbrev pub place_over : List Group → TableId → Option ℕ
place_over groups t = position (covers t) groups

abbrev pub group_at : List Group → Option ℕ → Option Group
group_at groups place = option_and_then (slice_get groups) place

-- the group that has a table
abbrev pub group_over : List Group → TableId → Option Group
group_over groups t = group_at groups (place_over groups t)

-- a group with this property has the table
abbrev pub is_table_of : (Group → Bool) → List Group → TableId → Bool
is_table_of test groups t = list_any (λ g. test g && covers t g) groups

-- the key is one of these
abbrev pub is_key : List (List Value) → List Value → Bool
is_key keys key = list_any (is_same key) keys

abbrev pub without_keys : List (List Value) → List (List Value) → List (List Value)
without_keys gone keys = filter (λ key. not (is_key gone key)) keys

-- keys that are new come behind the others; those that are there stay where they are
abbrev pub with_keys : List (List Value) → List (List Value) → List (List Value)
with_keys new keys = keys ++ without_keys keys new

-- the key that is used moves to the end, where it is there
abbrev pub used : List Value → List (List Value) → List (List Value)
used key keys = if is_key keys key then without_keys (key ∷ []) keys ++ key ∷ [] else keys

-- one group after the other is changed, where it passes a test
abbrev pub changed_where : (Group → Bool) → (Group → Group) → List Group → List Group
changed_where test change groups = map (λ g. if test g then change g else g) groups
