-- The tier as it is stored, and the abstract tiers that it stands for. (This project's model.)

use Rattle.std.specs.Prelude.{◌≡◌, ℕ, suc, List, [], ◌∷◌, All, None, Some, Bool, true, map, not, is_some, length, slice_get}
use Rattle.std.specs.List.{list_all}
use Rattle.tier_base.specs.declared.number.SessionId.{SessionId}
use Rattle.table_defs.specs.declared.definition.TableDef.{TableDef}
use Rattle.table_state.specs.declared.history.Entry.{Entry}
use Rattle.table_state.specs.declared.history.Sealed.{Sealed}
use Rattle.table_state.specs.declared.operation.Op.{Op}
use Rattle.table_state.specs.Operations.{applied_all, table_of}
use Rattle.table_state.specs.Tables.{TableState}
use Rattle.table_state.specs.Keyed.{IsKeyed}
use Rattle.pending_writes.specs.Noting.{TellsWriters}
use Rattle.own_rows.specs.OwnTables.{AreShown}
use Rattle.session_state.specs.Sessions.{OpenSession}
use Rattle.open_sessions.specs.Lookups.{of_label}
use Rattle.open_sessions.specs.Opening.{AreSessions, seen_all}
use Rattle.group_catalog.specs.Catalogs.{HaveOwnNames, is_plain, groups_in}
use Rattle.group_store.specs.Shown.{AreHoused, shown_by}
use Rattle.group_store.specs.Keeping.{IsFor}
use Rattle.group_store.specs.Stores.{Kept}
use Rattle.order_laws.specs.Commits.{RiseBetween}
use Rattle.cache_tier.specs.Groups.{Group, is_asynchronous, is_table_of}
use Rattle.cache_tier.specs.Routes.{hidden_where}
use Rattle.cache_tier.specs.Shown.{shown_state}
use Rattle.cache_tier.specs.TierStates.{Session, SetState, Settings, Tier}
use Rattle.cache_tier.specs.Worlds.{World}
use Rattle.tier_statements.specs.Seen.{session_seen}
use Rattle.slot_rows.specs.SlotKeys.{RowsHeld}
use Rattle.stored_tier.specs.Lists.{AreHiding, AreListed, HidesView, hides_keys}
use Rattle.stored_tier.specs.Moments.{refreshed_in, set_seen}
use Rattle.stored_tier.specs.declared.clock.Pace.{Pace}
use Rattle.stored_tier.specs.declared.clock.TierClock.{TierClock}
use Rattle.stored_tier.specs.declared.tier.Tier.{Tier as Stored}

-- a group without the keys of its list, which are kept with its rows
abbrev pub without_list : Group → Group
without_list g = record g { keys = [] }

-- the settings that say when work is done
abbrev pub pace_of : Settings → Pace
pace_of settings = record {
  propagate_ms = settings.propagate_ms;
  rotate_bytes = settings.rotate_bytes;
  lru_high = settings.lru_high;
  lru_low = settings.lru_low;
  lru_cycle_ms = settings.lru_cycle_ms;
}

-- The clock is that of a tier: its moment, the console's additions, the last round tried, the last refresh of each set,
-- and when work is done.
pub record KeepsTime (c : TierClock) (now added round : ℕ) (sets : List SetState) (settings : Settings) : Type 0 where
  pub moment : now ≡ c.now
  pub additions : added ≡ c.added
  pub tried : round ≡ c.round
  pub refreshes : (interval : ℕ) → refreshed_in sets interval ≡ refreshed_in (map set_seen c.sets.items) interval
  pub due : pace_of settings ≡ c.pace

-- What is stored is the abstract tier's. Its log and the number of its workers aren't stored, nor is the order of keys
-- where it plays no part, and no ticket of it is in doubt.
pub record IsStoredAs (t : Stored) (a : Tier) : Type 0 where
  pub schema : a.schema ≡ t.schema
  pub stale : a.stale ≡ t.stale
  pub groups : map without_list a.groups ≡ groups_in t.catalog
  pub lists : AreListed a.groups t.stores.items t.hidden.items
  pub sessions : a.sessions ≡ map session_seen (seen_all t.sessions)
  pub unsettled : a.unsettled ≡ t.unsettled.items
  pub next : a.next ≡ t.next
  pub doubt : a.doubt ≡ None
  pub time : KeepsTime t.clock a.now a.added a.round a.sets a.settings

-- the rows that are stored, as tables of the schema
abbrev pub rows_of : Stored → TableState
rows_of t = shown_by t.schema t.stores.items

-- they are what the cache shows
abbrev pub ShowsRows : Stored → World → Type 0
ShowsRows t w = rows_of t ≡ shown_state w.history w.tier

-- the hidden root rows of each group that hides some are those of its view at its position of this history
abbrev pub HidesRows : Stored → List Entry → Type 0
HidesRows t history =
    (k : ℕ) (g : Group) (h : RowsHeld) → slice_get (groups_in t.catalog) k ≡ Some g → hides_keys g ≡ true
    → slice_get t.hidden.items k ≡ Some h → HidesView history g h.table

-- groups and their hidden root rows stay
pub record KeepsHidden (t new : Stored) : Type 0 where
  pub groups : groups_in new.catalog ≡ groups_in t.catalog
  pub hidden : new.hidden.items ≡ t.hidden.items

-- the definitions at their places, where a table of no group has no name
abbrev pub named_where_cached : List Group → List TableDef → List TableDef
named_where_cached groups schema = hidden_where (λ table. not (is_table_of (λ g. true) groups table)) 0 schema

-- each store has the tables of its group's tree, with their keys
abbrev pub AreKept : List TableDef → List Group → List Kept → Type 0
AreKept schema [] [] = Unit {0}
AreKept schema [] (s ∷ stores) = ⊥
AreKept schema (g ∷ groups) [] = ⊥
AreKept schema (g ∷ groups) (s ∷ stores) = IsFor schema g.def.tree s × AreKept schema groups stores

-- each store has rows for each of its tables
abbrev pub AreWhole : List Kept → Type 0
AreWhole stores = (k : ℕ) (s : Kept) → slice_get stores k ≡ Some s → length s.tables ≡ suc (length s.layers)

-- each operation is on a table of a group with this property
abbrev pub are_on : (Group → Bool) → List Group → List Op → Bool
are_on test groups ops = list_all (λ op. is_table_of test groups (table_of op)) ops

-- each of these transactions writes tables of ASYNCHRONOUS WRITETHROUGH groups alone
abbrev pub are_later : List Group → List Sealed → Bool
are_later groups unsettled = list_all (λ x. are_on is_asynchronous groups x.ops) unsettled

-- The rows are such that sessions read them and write over them: rows stand under their keys, there are fewer than 2^63
-- in a table, and each session's operations apply on them.
pub record IsVerified (t : Stored) : Type 0 where
  pub rows : AreShown [] (rows_of t)
  pub own : All (λ s. AreShown s.ops (rows_of t)) (seen_all t.sessions)

-- the same but for how many rows there are: they stand under their keys, and each session's operations apply on them
pub record AreApplied (t : Stored) : Type 0 where
  pub keyed : IsKeyed (rows_of t)
  pub own : All (λ s. is_some (applied_all s.ops (rows_of t)) ≡ true) (seen_all t.sessions)

-- the ticket of the first of the unsettled transactions, or the next ticket where there is none
abbrev pub first_unsettled : List Sealed → ℕ → ℕ
first_unsettled [] next = next
first_unsettled (x ∷ unsettled) next = x.ticket.0

-- What the parts ask of one another:
--   sessions  each keeps what its operations leave and hold, and no two conflict
--   stores    the tables of the groups are found by the directory, and their foreign keys are the schema's
--   kept      each group's store has the tables of its tree
--   whole     and rows for each of them
--   hiding    each group has its hidden root rows, and room for more
--   plain     the groups are such as the tier does
--   named     no two of them have one name
--   visible   the names that a session finds at level 0
--   numbered  the tickets of the unsettled transactions rise below the next one
--   later     they write tables of ASYNCHRONOUS WRITETHROUGH groups alone
--   writers   which of them wrote each key last is known
--   verified  where that is noted, sessions may read and write
pub record IsSound (t : Stored) : Type 0 where
  pub sessions : AreSessions t.schema t.sessions
  pub stores : AreHoused t.schema t.stores.items t.directory
  pub kept : AreKept t.schema (groups_in t.catalog) t.stores.items
  pub whole : AreWhole t.stores.items
  pub hiding : AreHiding t.schema (groups_in t.catalog) t.stores.items t.hidden.items
  pub plain : list_all is_plain (groups_in t.catalog) ≡ true
  pub named : HaveOwnNames (groups_in t.catalog)
  pub visible : t.visible ≡ named_where_cached (groups_in t.catalog) t.schema
  pub numbered : RiseBetween 1 t.unsettled.items t.next
  pub later : are_later (groups_in t.catalog) t.unsettled.items ≡ true
  pub writers : TellsWriters t.schema (first_unsettled t.unsettled.items t.next) t.unsettled.items t.writers
  pub verified : t.verified ≡ true → IsVerified t

-- the session of this number, as the abstract tier has it
pub record HasSession (t : Stored) (id : SessionId) (s : Session) : Type 0 where
  pub seen : OpenSession
  pub found : of_label s.label (seen_all t.sessions) ≡ Some seen
  pub number : seen.id ≡ id
  pub is : session_seen seen ≡ s
