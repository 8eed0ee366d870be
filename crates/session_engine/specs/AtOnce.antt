-- COMMIT of a synchronous transaction over the stored tier. (TimesTen Cache User's Guide, "Synchronous writethrough":
-- it is committed at the backing database before it is in the cache; tickets are this project's.)

use Rattle.std.specs.Prelude.{◌≡◌, ◌⊎◌, ℕ, ◌+◌, ◌≤◌, Option, Some, None, length, Result, Ok, Err}
use Rattle.tier_base.specs.declared.code.Code.TheVariants as code
use Rattle.tier_base.specs.declared.number.SessionId.{SessionId}
use Rattle.outside.specs.declared.fault.BankError.{BankError}
use Rattle.outside.specs.declared.fault.BankError.TheVariants.{Failed, Memory}
use Rattle.outside.specs.declared.site.Applied.{Applied}
use Rattle.outside.specs.declared.site.Applied.TheVariants.{Now, Before, NotReady, Differs}
use Rattle.open_sessions.specs.Lookups.{open_ops}
use Rattle.open_sessions.specs.Opening.{on_session, seen_all}
use Rattle.session_state.specs.Sessions.{at_rest}
use Rattle.cache_tier.specs.declared.reply.Last.TheVariants.{Done}
use Rattle.cache_tier.specs.declared.reply.Reply.{Reply}
use Rattle.cache_tier.specs.Worlds.{faulty, only}
use Rattle.stored_tier.specs.declared.tier.Tier.{Tier as Stored}
use Rattle.stored_tier.specs.Refusing.{TellsDifference}
use Rattle.group_catalog.specs.Catalogs.{groups_in}
use Rattle.statement_uses.specs.Touching.{HaveEntered}
use Rattle.session_engine.specs.Committing.{HaveRoomFor, SparesHidden, StoresCommit, bare_all}
use Rattle.session_engine.specs.declared.at_once.Ready.{Ready}
use Rattle.session_engine.specs.Using.{Uses}
use Rattle.session_engine.specs.declared.doubt.Doubt.{Doubt}
use Rattle.session_engine.specs.declared.doubt.Doubted.TheVariants.{Commit}

-- nothing changes but the room in the stores
pub record Rooms (old new : Stored) : Type 0 where
  pub rest : new ≡ record old { stores = new.stores }
  pub stores : bare_all new.stores.items ≡ bare_all old.stores.items

-- the session's writes are sealed with the next ticket, which is drawn, and the stores have room for them
pub record Draws (old new : Stored) (id : SessionId) (ready : Ready) : Type 0 where
  pub fits : old.next ≤ 9223372036854775807
  pub rest : new ≡ record old { stores = new.stores; next = old.next + 1 }
  pub stores : bare_all new.stores.items ≡ bare_all old.stores.items
  pub room : HaveRoomFor (length ready.ops) new.stores.items
  pub ops : ready.ops ≡ open_ops id (seen_all old.sessions)
  pub entered : HaveEntered (groups_in old.catalog) (bare_all old.stores.items) ready.ops ready.entered
  pub spared : SparesHidden (groups_in old.catalog) ready.ops
  pub sealed : ready.sealed ≡ record { ticket = record { 0 = old.next }; ops = open_ops id (seen_all old.sessions) }

-- the stores have done the session's writes, and its transaction has ended
pub record Finishes (old new : Stored) (id : SessionId) : Type 0 where
  pub rest : new ≡ record old { stores = new.stores; sessions = new.sessions; verified = new.verified }
  pub seen : seen_all new.sessions ≡ on_session id at_rest (seen_all old.sessions)
  pub stores : StoresCommit old (open_ops id (seen_all old.sessions)) new.stores.items

-- what the bank's answer makes of a transaction with this ticket, which enters these root keys
abbrev pub Concludes : Uses → Stored → Stored → Option Doubt → SessionId → ℕ → Result Applied BankError → Reply → Type 0
Concludes entered old new doubt id ticket (Ok (Now receipt)) reply =
    Finishes old new id × (doubt ≡ None) × (reply ≡ only (Done ticket))
Concludes entered old new doubt id ticket (Ok (Before receipt)) reply =
    Finishes old new id × (doubt ≡ None) × (reply ≡ only (Done ticket))
Concludes entered old new doubt id ticket (Ok (NotReady other)) reply = ⊥
Concludes entered old new doubt id ticket (Ok (Differs table key row)) reply =
    (new ≡ old) × (doubt ≡ None) × (TellsDifference old table key reply ⊎ (reply ≡ faulty code.Memory))
Concludes entered old new doubt id ticket (Err Memory) reply =
    (new ≡ old) × (doubt ≡ None) × (reply ≡ faulty code.Memory)
Concludes entered old new doubt id ticket (Err Failed) reply =
    (new ≡ old)
    × (doubt ≡ Some (record {
      ticket = ticket;
      session = id;
      of = Commit (open_ops id (seen_all old.sessions));
      entered = entered;
    }))
    × (reply ≡ faulty code.BackingFault)
