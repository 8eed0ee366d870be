-- How the last writer of each key is kept.

use Rattle.std.specs.Prelude.{◌≡◌, ℕ, List, [], ◌∷◌, Option, Some, None, Bool, true, false, All, nat_le, slice_get, slice_set, if◌then◌else◌}
use Rattle.std.specs.FinMap.{FinMap, contains_key, get, insert}
use Rattle.std.specs.Option.{option_and_then, option_map, option_or}
use Rattle.table_state.specs.row_types.specs.declared.value.Value.{Value}
use Rattle.table_state.specs.row_types.specs.Order.{key_order}
use Rattle.table_state.specs.tier_base.specs.declared.number.Ticket.{Ticket}
use Rattle.table_state.specs.table_defs.specs.declared.definition.TableDef.{TableDef}
use Rattle.table_state.specs.declared.footprint.RowKey.{RowKey}
use Rattle.table_state.specs.declared.history.Sealed.{Sealed}
use Rattle.table_state.specs.Footprints.{same_row_key}
use Rattle.pending_writes.specs.declared.pending.PendingWrites.{PendingWrites}
use Rattle.pending_writes.specs.declared.writers.Writer.{Writer}
use Rattle.pending_writes.specs.declared.writes.Write.{Write}
use Rattle.pending_writes.specs.LastWriters.{last_writer}
use Rattle.pending_writes.specs.Places.{Entries}

-- the writers of the keys of a table
abbrev pub Noted : Type 0
Noted = FinMap key_order (Option Writer)

-- the writer of a key
abbrev pub noted_at : Option Noted → List Value → Option Writer
noted_at None key = None
noted_at (Some m) key = option_and_then (λ o. o) (get m key)

-- the writer of a row of one of the tables
abbrev pub found_in : List Noted → RowKey → Option Writer
found_in tables k = noted_at (slice_get tables k.table.0) k.key

-- a writer whose ticket is not below this one
abbrev pub since : ℕ → Option Writer → Option Writer
since first None = None
since first (Some w) = if nat_le first w.ticket.0 then Some w else None

-- Transactions wait, the first of them with this ticket, or the next ticket where there is none. What is kept from that
-- ticket on are the last writers among them.
abbrev pub TellsWriters : List TableDef → ℕ → List Sealed → PendingWrites → Type 0
TellsWriters schema first waiting pending =
    (k : RowKey) → since first (found_in pending.tables.items k) ≡ last_writer schema k waiting

-- the same writers are found
abbrev pub StayTold : List Noted → List Noted → Type 0
StayTold old new = (k : RowKey) → found_in new k ≡ found_in old k

-- a key is entered, without a writer where it wasn't
abbrev pub entered : List Value → Noted → Noted
entered key m = if contains_key m key then m else insert m key None

-- the key of a write is entered
abbrev pub is_entered : Option Noted → List Value → Bool
is_entered None key = false
is_entered (Some m) key = contains_key m key

abbrev pub IsEntered : List Noted → Write → Type 0
IsEntered tables w = is_entered (slice_get tables w.table.0) w.key ≡ true

-- the keys of these writes are
abbrev pub AreEntered : List Noted → List Write → Type 0
AreEntered tables writes = All (IsEntered tables) writes

-- those that were still are
abbrev pub StayEntered : List Noted → List Noted → Type 0
StayEntered old new = (w : Write) → IsEntered old w → IsEntered new w

-- a write of a transaction is noted
abbrev pub noted_with : Option Noted → Ticket → Write → List Noted → List Noted
noted_with None ticket w tables = tables
noted_with (Some m) ticket w tables =
    slice_set tables w.table.0 (insert m w.key (Some (record { ticket = ticket; leaves = w.leaves })))

abbrev pub noted : Ticket → Write → List Noted → List Noted
noted ticket w tables = noted_with (slice_get tables w.table.0) ticket w tables

abbrev pub noted_all : Ticket → List Write → List Noted → List Noted
noted_all ticket [] tables = tables
noted_all ticket (w ∷ ws) tables = noted_all ticket ws (noted ticket w tables)

-- whether a write leaves a row at a key, where it is at the key
abbrev pub told_at : RowKey → Write → Option Bool
told_at k w = if same_row_key k (record { table = w.table; key = w.key }) then Some w.leaves else None

-- the same of the last of the writes at the key
abbrev pub told_by : RowKey → List Write → Option Bool
told_by k [] = None
told_by k (w ∷ ws) = option_or (told_by k ws) (told_at k w)

-- writes that are told of keys go behind the others
abbrev pub NotesMore : (RowKey → Option Bool) → List Write → List Write → Type 0
NotesMore more old new = (k : RowKey) → told_by k new ≡ option_or (more k) (told_by k old)

-- the writer of a key is this transaction, where it wrote the key, and else the one that it was
abbrev pub with_writes : Ticket → Option Bool → Option Writer → Option Writer
with_writes ticket told before = option_or (option_map (λ b. record { ticket = ticket; leaves = b }) told) before

abbrev pub WritesNoted : Ticket → List Write → List Noted → List Noted → Type 0
WritesNoted ticket writes old new = (k : RowKey)
    → found_in new k ≡ with_writes ticket (told_by k writes) (found_in old k)

-- the entry at a place has no writer from this ticket on
abbrev pub IsIdleAt : ℕ → Entries → ℕ → Type 0
IsIdleAt first es place = (e : List Value × Option Writer) × (slice_get es place ≡ Some e) × (since first e.1 ≡ None)

-- of each key the writer from this ticket on is the same
abbrev pub StaysSince : ℕ → Noted → Noted → Type 0
StaysSince first old new = (key : List Value)
    → since first (noted_at (Some new) key) ≡ since first (noted_at (Some old) key)

abbrev pub AllStaySince : ℕ → List Noted → List Noted → Type 0
AllStaySince first old new = (k : RowKey) → since first (found_in new k) ≡ since first (found_in old k)
