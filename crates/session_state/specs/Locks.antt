-- Row locks: the keys that sessions hold by their open operations. (This project's rule: a lock is never waited for.)

use Rattle.std.specs.Prelude.{◌≡◌, List, [], ◌∷◌, Option, Some, None, Bool, true, false, not, ◌&&◌, All, find}
use Rattle.std.specs.Option.{option_map, option_or}
use Rattle.own_rows.specs.tier_base.specs.declared.number.SessionId.{SessionId}
use Rattle.own_rows.specs.table_defs.specs.declared.definition.TableDef.{TableDef}
use Rattle.own_rows.specs.table_state.specs.declared.operation.Op.{Op}
use Rattle.own_rows.specs.table_state.specs.declared.footprint.RowKey.{RowKey}
use Rattle.own_rows.specs.table_state.specs.Footprints.{conflict, footprint_of, is_among, is_in, referred_by, written_by}
use Rattle.session_state.specs.Sessions.{OpenSession, has_id}

-- the session isn't the one that asks
abbrev pub is_other : Option SessionId → OpenSession → Bool
is_other None s = true
is_other (Some but) s = not (has_id but s)

-- the session's open operations write the key
abbrev pub writes : List TableDef → RowKey → OpenSession → Bool
writes schema key s = is_among (footprint_of schema s.ops).written key

-- the session's open operations write the key, or name it as a parent
abbrev pub holds : List TableDef → RowKey → OpenSession → Bool
holds schema key s = is_in (footprint_of schema s.ops) key

-- of the sessions but one, the one opened earliest that writes the key
abbrev pub writer : Option SessionId → List TableDef → List OpenSession → RowKey → Option SessionId
writer but schema sessions key = option_map (λ s. s.id) (find (λ s. is_other but s && writes schema key s) sessions)

-- of the sessions but one, the one opened earliest that holds the key
abbrev pub keeper : Option SessionId → List TableDef → List OpenSession → RowKey → Option SessionId
keeper but schema sessions key = option_map (λ s. s.id) (find (λ s. is_other but s && holds schema key s) sessions)

-- whom a write of the key meets: the session that wrote it, else the one opened earliest that holds it
abbrev pub met : Option SessionId → List TableDef → List OpenSession → RowKey → Option SessionId
met but schema sessions key = option_or (writer but schema sessions key) (keeper but schema sessions key)

-- what the first element that gives something gives
abbrev pub first_some : {A B : Type 0} → (A → Option B) → List A → Option B
first_some f [] = None
first_some f (x ∷ xs) = option_or (f x) (first_some f xs)

-- whom one operation meets: at the keys that it writes, then, of those that it names as parents, who wrote them
abbrev pub holder_by : Option SessionId → List TableDef → List OpenSession → Op → Option SessionId
holder_by but schema sessions op =
    option_or (first_some (met but schema sessions) (written_by schema op))
    (first_some (writer but schema sessions) (referred_by schema op))

-- whom operations meet: the first that meets a session decides, at its first such key
abbrev pub holder_of : Option SessionId → List TableDef → List OpenSession → List Op → Option SessionId
holder_of but schema sessions ops = first_some (holder_by but schema sessions) ops

-- the order of both transactions doesn't matter: no key is in both footprints and written in one
abbrev pub IsApart : List TableDef → List Op → List Op → Type 0
IsApart schema ops others = conflict (footprint_of schema ops) (footprint_of schema others) ≡ false

-- the operations conflict with those of no session but one
abbrev pub AreApart : Option SessionId → List TableDef → List OpenSession → List Op → Type 0
AreApart but schema sessions ops = All (λ s. is_other but s ≡ true → IsApart schema ops s.ops) sessions
