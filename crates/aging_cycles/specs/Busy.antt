-- Instances in which sessions have uncommitted writes, over what a store keeps. (This project's rule: a key is held by
-- the open operations that write it or name it as a parent.)

use Rattle.std.specs.Prelude.{List, Bool, ◌&&◌, ◌||◌, map}
use Rattle.std.specs.List.{list_any}
use Rattle.tier_base.specs.declared.number.TableId.{TableId}
use Rattle.row_types.specs.declared.value.Value.{Value}
use Rattle.table_defs.specs.declared.definition.TableDef.{TableDef}
use Rattle.table_state.specs.declared.operation.Op.{Op}
use Rattle.table_state.specs.Footprints.{footprint_of, is_in}
use Rattle.session_state.specs.Holding.{is_held}
use Rattle.session_state.specs.Sessions.{OpenSession}
use Rattle.session_state.specs.declared.session.Session.{Session}
use Rattle.open_sessions.specs.Opening.{seen_all}
use Rattle.open_sessions.specs.declared.sessions.Sessions.{Sessions}
use Rattle.group_store.specs.Held.{is_instance_held}
use Rattle.group_store.specs.Stores.{Kept}
use Rattle.cache_tier.specs.Groups.{Group, is_writethrough}

-- the open operations of each session
abbrev pub owns_of : Sessions → List (List Op)
owns_of sessions = map (λ (x : OpenSession). x.ops) (seen_all sessions)

-- some of these operations hold the key
abbrev pub is_held_by : List TableDef → List (List Op) → TableId → List Value → Bool
is_held_by schema owns table key =
    list_any (λ ops. is_in (footprint_of schema ops) (record { table = table; key = key })) owns

-- A session has uncommitted writes in the instance: it holds the key of one of its rows. Of a READONLY group none has:
-- sessions write through the others.
abbrev pub is_busy_in : List TableDef → List (List Op) → Group → Kept → List Value → Bool
is_busy_in schema owns g s root = is_writethrough g && is_instance_held (is_held_by schema owns) s root

-- a session keeps the key among those that it writes, or names as parents
abbrev pub is_kept_by : List Session → TableId → List Value → Bool
is_kept_by sessions table key =
    list_any (λ s. is_held s.written (record { table = table; key = key })
    || is_held s.referred (record { table = table; key = key })) sessions

-- the same by what sessions keep
abbrev pub is_busy_at : List Session → Kept → List Value → Bool
is_busy_at sessions s root = is_instance_held (is_kept_by sessions) s root
