-- Open sessions as a reader sees them, and what becomes of them. (This project's rule; the levels of passthrough are
-- those of TimesTen's Cache User's Guide, "Setting a passthrough level".)

use Rattle.std.specs.Prelude.{ℕ, List, [], ◌++◌, Option, Some, None, Bool, nat_eq, unwrap_or}
use Rattle.own_rows.specs.tier_base.specs.declared.number.SessionId.{SessionId}
use Rattle.own_rows.specs.table_state.specs.declared.operation.Op.{Op}

-- An open session: its number and label; the level of passthrough and whether its commits are flushed, as OPEN said;
-- the level that its open transaction was given, if it was given one; and its open operations.
pub record OpenSession : Type 0 where
  pub id : SessionId
  pub label : List ℕ
  pub level : ℕ
  pub durable : Bool
  pub flag : Option ℕ
  pub ops : List Op

-- a session that has just been opened
abbrev pub begun : SessionId → List ℕ → ℕ → Bool → OpenSession
begun id label level durable =
    record { id = id; label = label; level = level; durable = durable; flag = None; ops = [] }

-- a session whose transaction has ended: nothing is open, and what its transaction was given is gone
abbrev pub at_rest : OpenSession → OpenSession
at_rest s = record { id = s.id; label = s.label; level = s.level; durable = s.durable; flag = None; ops = [] }

-- a session with operations behind its open ones
abbrev pub with_ops : List Op → OpenSession → OpenSession
with_ops ops s =
    record { id = s.id; label = s.label; level = s.level; durable = s.durable; flag = s.flag; ops = s.ops ++ ops }

-- a session whose transaction was given a level
abbrev pub with_flag : ℕ → OpenSession → OpenSession
with_flag level s =
    record { id = s.id; label = s.label; level = s.level; durable = s.durable; flag = Some level; ops = s.ops }

-- the level of passthrough that counts: that of the transaction, where it was given one
abbrev pub level_of : OpenSession → ℕ
level_of s = unwrap_or s.flag s.level

-- the session has this number
abbrev pub has_id : SessionId → OpenSession → Bool
has_id id s = nat_eq s.id.0 id.0
