-- What holds of a tier in its world between two events. (TimesTen Cache User's Guide: cache groups; the virtual state,
-- positions and locks are this project's rule.)

use Rattle.std.specs.Prelude.{◌≡◌, ℕ, ◌≤◌, List, [], ◌∷◌, Bool, true, false, ◌&&◌, Option, Some, None, is_none, map, filter, length, slice_get}
use Rattle.std.specs.FinMap.{contains_key}
use Rattle.std.specs.List.{list_all, list_any}
use Rattle.std.specs.Option.{option_and_then}
use Rattle.row_types.specs.declared.value.Value.{Value}
use Rattle.tier_base.specs.declared.number.TableId.{TableId}
use Rattle.table_defs.specs.declared.definition.ForeignKey.{ForeignKey}
use Rattle.table_defs.specs.declared.definition.TableDef.{TableDef}
use Rattle.table_state.specs.declared.operation.Op.{Op}
use Rattle.table_state.specs.Operations.{table_of}
use Rattle.table_state.specs.Tables.{TableState, table_at}
use Rattle.instances.specs.declared.tree.Child.{Child}
use Rattle.instances.specs.declared.tree.Tree.{Tree}
use Rattle.instances.specs.Trees.{is_sound}
use Rattle.order_laws.specs.Commits.{LiveGroup}
use Rattle.order_laws.specs.Standing.{Progress, progress_of}
use Rattle.order_laws.specs.OpenWrites.{AllApply, OpenWrites}
use Rattle.order_laws.specs.Pipelines.{Pipeline}
use Rattle.cache_tier.specs.Commits.{live_group}
use Rattle.cache_tier.specs.Groups.{Group, covers, is_key, is_table_of, is_writethrough}
use Rattle.cache_tier.specs.Sets.{OnePosition}
use Rattle.cache_tier.specs.Shown.{shown_state}
use Rattle.cache_tier.specs.Standing.{AreDistinct, KnowsSchema}
use Rattle.cache_tier.specs.TierStates.{Session, Tier, is_labelled}
use Rattle.cache_tier.specs.Worlds.{World}

-- each element has the property
abbrev pub Each : {X : Type 0} → (X → Type 0) → List X → Type 0
Each P [] = Unit {0}
Each P (x ∷ xs) = P x × Each P xs

-- the live writethrough groups, as the laws of order see them
abbrev pub live_groups_of : List Group → List LiveGroup
live_groups_of groups = map live_group (filter is_writethrough groups)

-- how far the tier has come over its history
abbrev pub progress_in : World → Progress
progress_in w = progress_of (live_groups_of w.tier.groups) w.history w.tier.log w.tier.next

-- no table of the tree has a WHERE
abbrev pub has_no_where : Tree → Bool
has_no_where tree = is_none tree.root.filter && list_all (λ (child : Child). is_none child.filter) tree.children

-- the foreign key of a table
abbrev pub foreign_key_in : List TableDef → TableId → Option ForeignKey
foreign_key_in schema t = option_and_then (λ def. def.foreign_key) (slice_get schema t.0)

-- A group of the catalog: its tables are there, and each child refers to its parent. The tables of a writethrough one
-- have no WHERE, and its root refers to no table.
pub record IsCatalogued (schema : List TableDef) (g : Group) : Type 0 where
  pub sound : is_sound schema g.def.tree ≡ true
  pub plain : is_writethrough g ≡ true → has_no_where g.def.tree ≡ true
  pub free : is_writethrough g ≡ true → foreign_key_in schema g.def.tree.root.table ≡ None

-- the group has no table of these groups
abbrev pub HasNoTableOf : List Group → Group → Type 0
HasNoTableOf groups g = (t : TableId) → covers t g ≡ true → list_any (covers t) groups ≡ false

-- no table is in two groups
abbrev pub HaveOwnTables : List Group → Type 0
HaveOwnTables [] = Unit {0}
HaveOwnTables (g ∷ groups) = HasNoTableOf groups g × HaveOwnTables groups

pub record HasCatalog (t : Tier) : Type 0 where
  pub each : Each (IsCatalogued t.schema) t.groups
  pub apart : HaveOwnTables t.groups

-- the root key is that of a root row of the group in the state
abbrev pub has_root_row : TableState → Group → List Value → Bool
has_root_row s g key = contains_key (table_at s g.def.tree.root.table) key

-- no key of a group is listed twice, and each of a writethrough group has its root row in the virtual state
pub record HasKeys (virtual : TableState) (g : Group) : Type 0 where
  pub distinct : AreDistinct g.keys
  pub rooted : is_writethrough g ≡ true → (key : List Value) → is_key g.keys key ≡ true
      → has_root_row virtual g key ≡ true

-- the group's position is a length that the history has had
abbrev pub IsReadWithin : ℕ → Group → Type 0
IsReadWithin size g = (n : ℕ) → g.position ≡ Some n → n ≤ size

-- what READONLY groups were refreshed at: positions of the history, and one for all groups of a set that show something
pub record AreReadAt (size : ℕ) (groups : List Group) : Type 0 where
  pub within : Each (IsReadWithin size) groups
  pub one : OnePosition groups

-- no two sessions have one label
abbrev pub HaveOwnLabels : List Session → Type 0
HaveOwnLabels [] = Unit {0}
HaveOwnLabels (s ∷ sessions) = (list_any (is_labelled s.label) sessions ≡ false) × HaveOwnLabels sessions

-- the uncommitted writes of each open session
abbrev pub own_writes : List Session → List (List Op)
own_writes sessions = map (λ s. s.own) sessions

-- operations on tables of writethrough groups
abbrev pub are_written_through : List Group → List Op → Bool
are_written_through groups ops = list_all (λ op. is_table_of is_writethrough groups (table_of op)) ops

-- The open sessions: their writes are on tables of writethrough groups, apply over what is shown and over the virtual
-- state, and no two sessions' conflict.
pub record HaveWritten (v s : TableState) (groups : List Group) (sessions : List Session) : Type 0 where
  pub labels : HaveOwnLabels sessions
  pub through : list_all (are_written_through groups) (own_writes sessions) ≡ true
  pub shown : OpenWrites s (own_writes sessions)
  pub virtual : AllApply v (own_writes sessions)

-- What holds of a tier in its world: the committed transactions stand over the history, with those that are unsettled;
-- the schema is a front of the bank's; and the catalog, its keys and positions, and the sessions' writes are in order.
pub record Stands (w : World) : Type 0 where
  pub flow : Pipeline (progress_in w) w.tier.unsettled
  pub schema : KnowsSchema w
  pub catalog : HasCatalog w.tier
  pub keys : Each (HasKeys flow.stand.over.virtual) w.tier.groups
  pub read : AreReadAt (length w.history) w.tier.groups
  pub sessions : HaveWritten flow.stand.over.virtual (shown_state w.history w.tier) w.tier.groups w.tier.sessions
