-- INSERT, UPDATE and DELETE over the stored tier. (TimesTen SQL Reference, "INSERT", "UPDATE", "DELETE"; locks are this
-- project's rule.)

use Rattle.std.specs.Prelude.{◌≡◌, List, Some, None, Bool, true, false, Result, Ok, Err}
use Rattle.tier_base.specs.declared.number.SessionId.{SessionId}
use Rattle.row_types.specs.declared.rule.Refused.{Refused}
use Rattle.row_types.specs.declared.rule.Refused.TheVariants as refused
use Rattle.table_state.specs.declared.operation.Op.{Op}
use Rattle.table_state.specs.declared.operation.Op.TheVariants.{Insert, Update, Delete}
use Rattle.table_state.specs.Operations.{applied_all}
use Rattle.table_state.specs.Refusals.{broken_by_all}
use Rattle.table_state.specs.Tables.{TableState}
use Rattle.transactions.specs.Transactions.{rows_in}
use Rattle.session_state.specs.Sessions.{with_ops}
use Rattle.open_sessions.specs.Lookups.{open_ops}
use Rattle.open_sessions.specs.Opening.{on_session, seen_all}
use Rattle.group_catalog.specs.Catalogs.{groups_in}
use Rattle.cache_tier.specs.declared.reply.Last.TheVariants.{Done, No}
use Rattle.cache_tier.specs.declared.reply.Reply.{Reply}
use Rattle.cache_tier.specs.Locks.{lock_fault}
use Rattle.cache_tier.specs.Shown.{seen_by}
use Rattle.cache_tier.specs.TierStates.{Session}
use Rattle.cache_tier.specs.Worlds.{IsUnshared, Part, Tries, World, only}
use Rattle.evaluator.specs.declared.change.Change.{Change}
use Rattle.outside.specs.Sites.{SiteState}
use Rattle.cache_tier.specs.WriteSteps.{WritesOps, WritesShown}
use Rattle.resolution.specs.Writes.{change_seen}
use Rattle.cache_tier.specs.StandingBetween.{are_written_through}
use Rattle.tier_statements.specs.Preparing.{shown_fault}
use Rattle.session_engine.specs.declared.preparing.Prepared.{Prepared}
use Rattle.session_engine.specs.Using.{AreWriteUses, Touches, Uses}
use Rattle.stored_tier.specs.declared.tier.Tier.{Tier as Stored}
use Rattle.stored_tier.specs.Performing.{IsPerformed, StandsFor, StaysWritten, reply_of}
use Rattle.stored_tier.specs.Sites.{IsAt}
use Rattle.stored_tier.specs.Stored.{HasSession, rows_of}

-- no row is inserted
abbrev pub is_change : Op → Bool
is_change (Insert table row) = false
is_change (Update table old new) = true
is_change (Delete table old) = true

-- the operations break no rule over what the session of this number sees
abbrev pub IsUnbroken : Stored → SessionId → List Op → Type 0
IsUnbroken t id ops =
    (seen : TableState) → applied_all (open_ops id (seen_all t.sessions)) (rows_of t) ≡ Some seen
    → broken_by_all ops seen ≡ None

-- what a write with its names found does in the cache; memory may be wanting at any time
abbrev pub DoesChange : Change → Session → Part
DoesChange change s = Tries (WritesShown s (change_seen change))

-- it writes nothing to the journal
abbrev pub ChangesUnwritten : Change → Session → Part
ChangesUnwritten change s w w' reply = DoesChange change s w w' reply × StaysWritten w w'

-- The write stands for these operations: what they do as the cache does them, it does. They meet no lock, and nothing
-- shown keeps them back.
pub record IsPrepared (s : Session) (change : Change) (w : World) (p : Prepared) : Type 0 where
  pub leads : (w' : World) (reply : Reply) → WritesOps s p.table p.ops w w' reply → DoesChange change s w w' reply
  pub free : lock_fault s.label w.tier p.ops ≡ None
  pub shown : shown_fault w.tier (seen_by s w.history w.tier) p.ops ≡ None

-- the write stands for operations, or is refused before the bank is asked; memory may be wanting at any time
abbrev pub Prepares : Session → Change → World → Result Prepared Refused → Type 0
Prepares s change w (Ok p) = IsPrepared s change w p
Prepares s change w (Err (refused.Rule rule)) = DoesChange change s w w (only (No rule))
Prepares s change w (Err refused.Memory) = Unit {0}

-- the operations stand behind those of the session of this number, and are on tables of writethrough groups
pub record Holds (old new : Stored) (id : SessionId) (ops : List Op) : Type 0 where
  pub rest : new ≡ record old { sessions = new.sessions }
  pub seen : seen_all new.sessions ≡ on_session id (with_ops ops) (seen_all old.sessions)
  pub through : are_written_through (groups_in old.catalog) ops ≡ true

-- the sessions are seen as they were
pub record HoldsNothing (old new : Stored) : Type 0 where
  pub rest : new ≡ record old { sessions = new.sessions }
  pub seen : seen_all new.sessions ≡ seen_all old.sessions

-- the same, and the instances that they change were used
pub record HoldsUsed (old new : Stored) (id : SessionId) (ops : List Op) : Type 0 where
  pub held : Stored
  pub uses : Uses
  pub are : AreWriteUses old id ops uses
  pub holds : Holds old held id ops
  pub touches : Touches held new uses

-- the session holds the operations, and the reply tells how many are on the named table; or memory was wanting
abbrev pub Changed : Stored → Stored → SessionId → Prepared → Result Reply Refused → Type 0
Changed old new id p (Ok reply) = HoldsUsed old new id p.ops × (reply ≡ only (Done (rows_in p.table p.ops)))
Changed old new id p (Err (refused.Rule rule)) = ⊥
Changed old new id p (Err refused.Memory) = HoldsNothing old new

-- in each world the write is done
abbrev pub WritesCached : Stored → Stored → SiteState → SiteState → SessionId → Change → Result Reply Refused → Type 0
WritesCached old new before behind id change result =
    (w : World) (s : Session) → HasSession old id s → IsAt before w → StandsFor old w → IsUnshared w
    → IsPerformed new behind (λ w'. ChangesUnwritten change s w w' (reply_of result))
