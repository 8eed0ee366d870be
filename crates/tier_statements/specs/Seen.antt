-- The tier as a reader sees it, over the parts that are stored. (This project's rule.)

use Rattle.std.specs.Prelude.{◌≡◌, ◌≢◌, ℕ, List, All, map, true}
use Rattle.tier_base.specs.declared.number.SessionId.{SessionId}
use Rattle.tier_base.specs.declared.number.TableId.{TableId}
use Rattle.table_defs.specs.declared.definition.TableDef.{TableDef}
use Rattle.session_state.specs.Sessions.{OpenSession, has_id}
use Rattle.cache_tier.specs.Groups.{Group, is_read_only, is_synchronous, is_table_of, is_writethrough}
use Rattle.cache_tier.specs.TierStates.{Session, Tier, is_labelled}

-- an open session as the tier's reader sees it: without its number
abbrev pub session_seen : OpenSession → Session
session_seen s = record { label = s.label; level = s.level; flag = s.flag; durable = s.durable; own = s.ops }

-- the number is that of the session of this label, and of no other
abbrev pub IsNumberOf : SessionId → List ℕ → List OpenSession → Type 0
IsNumberOf id label sessions = All (λ s. has_id id s ≡ is_labelled label (session_seen s)) sessions

-- the numbers differ
abbrev pub DifferInNumber : OpenSession → OpenSession → Type 0
DifferInNumber a b = a.id.0 ≢ b.id.0

-- the tier has these definitions and these sessions
pub record HasSessions (schema : List TableDef) (sessions : List OpenSession) (t : Tier) : Type 0 where
  pub definitions : t.schema ≡ schema
  pub open_sessions : t.sessions ≡ map session_seen sessions

-- The tier has these definitions, and its groups have the tables that these groups have, of the same kinds.
pub record HasGroups (schema : List TableDef) (groups : List Group) (t : Tier) : Type 0 where
  pub definitions : t.schema ≡ schema
  pub cached :
      (table : TableId) → is_table_of (λ g. true) t.groups table ≡ is_table_of (λ g. true) groups table
  pub written_through :
      (table : TableId) → is_table_of is_writethrough t.groups table ≡ is_table_of is_writethrough groups table
  pub only_read : (table : TableId) → is_table_of is_read_only t.groups table ≡ is_table_of is_read_only groups table
  pub synchronous :
      (table : TableId) → is_table_of is_synchronous t.groups table ≡ is_table_of is_synchronous groups table
