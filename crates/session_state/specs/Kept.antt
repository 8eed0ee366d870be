-- What a session keeps of its open operations. (This project's rule.)

use Rattle.std.specs.Prelude.{◌≡◌, ℕ, ◌+◌, ◌≤◌, ◌*◌, List, Option, Some, None, Bool, true, false, length, nat_lt, slice_get}
use Rattle.std.specs.List.{list_all}
use Rattle.own_rows.specs.tier_base.specs.declared.limit.Limit.TheVariants as limit
use Rattle.own_rows.specs.tier_base.specs.Limits.{greatest}
use Rattle.own_rows.specs.table_defs.specs.declared.definition.ForeignKey.{ForeignKey}
use Rattle.own_rows.specs.table_defs.specs.declared.definition.TableDef.{TableDef}
use Rattle.own_rows.specs.table_state.specs.declared.operation.Op.{Op}
use Rattle.own_rows.specs.table_state.specs.Footprints.{footprint_of}
use Rattle.own_rows.specs.table_state.specs.Operations.{table_of}
use Rattle.own_rows.specs.Laying.{HaveRoom}
use Rattle.own_rows.specs.OwnTables.{AreRowsOf}
use Rattle.session_state.specs.declared.session.Session.{Session}
use Rattle.session_state.specs.Holding.{AreKeysOf, KeysHaveRoom}
use Rattle.session_state.specs.Sessions.{OpenSession}

-- what a reader sees of a session
abbrev pub seen_of : Session → OpenSession
seen_of s =
    record { id = s.id; label = s.label; level = s.level; durable = s.durable; flag = s.flag; ops = s.ops.items }

-- the table of a foreign key's parent is one of the schema's
abbrev pub has_parent_of : List TableDef → Option ForeignKey → Bool
has_parent_of schema None = true
has_parent_of schema (Some foreign) = nat_lt foreign.parent.0 (length schema)

-- the table is there, and that of its parent is
abbrev pub has_both : List TableDef → Option TableDef → Bool
has_both schema None = false
has_both schema (Some def) = has_parent_of schema def.foreign_key

-- each operation's table is one of the schema's, and so is that of its parent
abbrev pub are_defined : List TableDef → List Op → Bool
are_defined schema ops = list_all (λ op. has_both schema (slice_get schema (table_of op).0)) ops

-- What a session stores is what its operations leave and hold: its own rows are theirs, the keys are their footprint,
-- and there are no more of them than a transaction may have. The rest is room: each operation adds at most one row to a
-- table's own rows, and at most two keys to those held of a kind.
pub record IsKept (schema : List TableDef) (s : Session) : Type 0 where
  pub rows : AreRowsOf schema s.ops.items s.own
  pub written : AreKeysOf (footprint_of schema s.ops.items).written s.written
  pub referred : AreKeysOf (footprint_of schema s.ops.items).referred s.referred
  pub defined : are_defined schema s.ops.items ≡ true
  pub few : length s.ops.items ≤ greatest limit.Operations
  pub own_within : length s.own ≤ length schema
  pub written_within : length s.written ≤ length schema
  pub referred_within : length s.referred ≤ length schema
  pub own_room : (n : ℕ) → length s.ops.items + n ≤ greatest limit.Operations → HaveRoom n s.own
  pub written_room :
      (n : ℕ) → length (footprint_of schema s.ops.items).written + n ≤ 2 * greatest limit.Operations
      → KeysHaveRoom n s.written
  pub referred_room :
      (n : ℕ) → length (footprint_of schema s.ops.items).referred + n ≤ 2 * greatest limit.Operations
      → KeysHaveRoom n s.referred
