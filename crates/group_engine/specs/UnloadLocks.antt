-- The locks that UNLOAD meets, over what is stored. (This project's rule: the rows of an instance are those that a root
-- row is reached from.)

use Rattle.std.specs.Prelude.{◌≡◌, List, Option, Bool, true, false, ◌&&◌, ◌||◌, Some, Result, Ok, Err, not, find, slice_get}
use Rattle.std.specs.FinMap.{get}
use Rattle.std.specs.List.{list_any}
use Rattle.std.specs.Option.{option_map}
use Rattle.row_types.specs.declared.rule.Refused.{Refused}
use Rattle.row_types.specs.declared.rule.Refused.TheVariants as refused
use Rattle.row_types.specs.declared.value.Value.{Value}
use Rattle.tier_base.specs.declared.number.SessionId.{SessionId}
use Rattle.table_defs.specs.Declarations.{Tells}
use Rattle.table_state.specs.declared.footprint.RowKey.{RowKey}
use Rattle.table_state.specs.declared.operation.Op.{Op}
use Rattle.table_state.specs.Footprints.{footprint_of}
use Rattle.table_state.specs.Tables.{TableState}
use Rattle.instances.specs.declared.tree.Tree.{Tree}
use Rattle.instances.specs.Roots.{root_of}
use Rattle.instances.specs.Views.{kept_at, passes}
use Rattle.session_state.specs.Sessions.{OpenSession, has_id}
use Rattle.open_sessions.specs.Opening.{seen_all}
use Rattle.group_catalog.specs.Catalogs.{groups_in}
use Rattle.group_catalog.specs.declared.which.ResolvedWhich.{ResolvedWhich}
use Rattle.group_store.specs.Stores.{Kept}
use Rattle.tier_statements.specs.Seen.{session_seen}
use Rattle.cache_tier.specs.Conditions.{overflows}
use Rattle.cache_tier.specs.Groups.{Group, is_writethrough}
use Rattle.cache_tier.specs.Locks.{locked_by}
use Rattle.cache_tier.specs.Shown.{all_over}
use Rattle.cache_tier.specs.Targets.{Target}
use Rattle.cache_tier.specs.TierStates.{Session}
use Rattle.cache_tier.specs.UnloadSteps.{unload_fault}
use Rattle.cache_tier.specs.Worlds.{World}
use Rattle.group_engine.specs.declared.aiming.Aim.{Aim}
use Rattle.stored_tier.specs.declared.tier.Tier.{Tier as Stored}
use Rattle.stored_tier.specs.Choosing.{matches_at}
use Rattle.stored_tier.specs.Performing.{StandsFor}
use Rattle.stored_tier.specs.Stored.{HasSession, rows_of}
use Rattle.group_engine.specs.Taking.{IsOfTarget}
use Rattle.group_engine.specs.Unloading.{OverflowsIn}

-- the store has an instance of the root key, and it matches
abbrev pub leaves : ResolvedWhich → Kept → List Value → Bool
leaves which store key = passes (matches_at which key) (get (kept_at store.tables 0) key)

-- the key's row is reached from a root whose key passes
abbrev pub is_within : TableState → Tree → (List Value → Bool) → RowKey → Bool
is_within s tree test key = passes test (root_of s tree key.table key.key)

-- so is one of those that operations hold
abbrev pub touches : TableState → Tree → (List Value → Bool) → List Op → Bool
touches s tree test ops =
    list_any (is_within s tree test) (footprint_of s.schema ops).written
    || list_any (is_within s tree test) (footprint_of s.schema ops).referred

-- in the rows as they are, or with the operations over them
abbrev pub writes_within : TableState → Tree → (List Value → Bool) → List Op → Bool
writes_within s tree test ops = touches s tree test ops || touches (all_over ops s) tree test ops

-- the session opened earliest that has written so, but that of the number
abbrev pub writer_within : SessionId → TableState → Tree → (List Value → Bool) → List OpenSession → Option OpenSession
writer_within id s tree test sessions = find (λ x. not (has_id id x) && writes_within s tree test x.ops) sessions

-- 111 of the group at a place, by its tree and its store
abbrev pub LocksTold : Stored → SessionId → Aim → Result (Unit {0}) Refused → Type 0
LocksTold t id aim result =
    (g : Group) (store : Kept) → slice_get (groups_in t.catalog) aim.place ≡ Some g
    → slice_get t.stores.items aim.place ≡ Some store
    → Tells result (option_map locked_by (option_map session_seen
    (writer_within id (rows_of t) g.def.tree (leaves aim.which store) (seen_all t.sessions))))

-- the condition is 120 on no row of the store at a place
pub record FitsIn (t : Stored) (aim : Aim) : Type 0 where
  pub store : Kept
  pub kept : slice_get t.stores.items aim.place ≡ Some store
  pub fits : overflows aim.which.filter (kept_at store.tables 0) ≡ false

-- 120 of the condition on a root row
abbrev pub RootsTold : Stored → Aim → Result (Unit {0}) Refused → Type 0
RootsTold t aim (Ok done) = FitsIn t aim
RootsTold t aim (Err (refused.Rule rule)) = OverflowsIn aim.place aim.which t.stores.items rule
RootsTold t aim (Err refused.Memory) = Unit {0}

-- 120, then 111, of a writethrough group in each world for which the tier stands
abbrev pub UnloadTold : Stored → SessionId → Aim → Result (Unit {0}) Refused → Type 0
UnloadTold t id aim result =
    (s : Session) (w : World) (x : Target) → HasSession t id s → StandsFor t w
    → slice_get w.tier.groups aim.place ≡ Some x.group → is_writethrough x.group ≡ true
    → IsOfTarget x aim.place aim.which → Tells result (unload_fault s x w)
