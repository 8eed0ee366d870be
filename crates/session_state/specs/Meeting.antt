-- The session at whose row lock operations stop, among those that may block them. (This project's rule.)

use Rattle.std.specs.Prelude.{List, Option, find}
use Rattle.std.specs.Option.{option_or}
use Rattle.own_rows.specs.table_defs.specs.declared.definition.TableDef.{TableDef}
use Rattle.own_rows.specs.table_state.specs.declared.footprint.RowKey.{RowKey}
use Rattle.own_rows.specs.table_state.specs.declared.operation.Op.{Op}
use Rattle.own_rows.specs.table_state.specs.Footprints.{referred_by, written_by}
use Rattle.session_state.specs.Locks.{first_some, holds, writes}
use Rattle.session_state.specs.Sessions.{OpenSession}

-- at a key that is written: who wrote it, else the one opened earliest that holds it
abbrev pub blocker_at : List TableDef → List OpenSession → RowKey → Option OpenSession
blocker_at schema others key = option_or (find (writes schema key) others) (find (holds schema key) others)

-- by one operation: at the keys that it writes, then, at those that it names as parents, who wrote them
abbrev pub blocker_by : List TableDef → List OpenSession → Op → Option OpenSession
blocker_by schema others op =
    option_or (first_some (blocker_at schema others) (written_by schema op))
    (first_some (λ key. find (writes schema key) others) (referred_by schema op))

-- by the first operation that meets one
abbrev pub blocker_of : List TableDef → List OpenSession → List Op → Option OpenSession
blocker_of schema others ops = first_some (blocker_by schema others) ops
