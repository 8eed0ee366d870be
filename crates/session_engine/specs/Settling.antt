-- A doubt that is settled, over the stored tier. (TimesTen Cache User's Guide, "Synchronous writethrough"; that the
-- backing database is asked before any other use of the ticket is this project's rule.)

use Rattle.std.specs.Prelude.{◌≡◌, ◌≤◌, ℕ, List, [], ◌∷◌, Option, Some, None, Bool, true, false, Result, Ok, Err, count_by}
use Rattle.tier_base.specs.declared.code.Code.{Code}
use Rattle.tier_base.specs.declared.number.SessionId.{SessionId}
use Rattle.outside.specs.Faults.{BankHasCause}
use Rattle.outside.specs.Sites.{SiteState}
use Rattle.outside.specs.declared.fault.BankError.{BankError}
use Rattle.open_sessions.specs.Opening.{on_session, seen_all}
use Rattle.session_state.specs.Sessions.{at_rest}
use Rattle.cache_tier.specs.Steps.{note_tells}
use Rattle.cache_tier.specs.Worlds.{bank_fault}
use Rattle.cache_tier.specs.declared.reply.Note.{Note}
use Rattle.cache_tier.specs.declared.reply.Note.TheVariants.{Committed, RolledBack}
use Rattle.cache_tier.specs.declared.reply.Reply.{Reply}
use Rattle.stored_tier.specs.declared.tier.Tier.{Tier as Stored}
use Rattle.stored_tier.specs.Performing.{KeepsSlots}
use Rattle.session_engine.specs.AtOnce.{Finishes}
use Rattle.session_engine.specs.declared.doubt.Doubt.{Doubt}
use Rattle.session_engine.specs.declared.doubt.Doubted.{Doubted}
use Rattle.session_engine.specs.declared.doubt.Doubted.TheVariants.{Commit, PassedWrite}

-- the session's transaction has ended, and what it had written is forgotten
pub record Forgets (old new : Stored) (id : SessionId) : Type 0 where
  pub rest : new ≡ record old { sessions = new.sessions }
  pub seen : seen_all new.sessions ≡ on_session id at_rest (seen_all old.sessions)

-- a commit stands at the backing database, or it doesn't; behind a write that was passed on all stays
abbrev pub Settles : Doubted → Stored → Stored → SessionId → Bool → Type 0
Settles (Commit ops) old new id true = Finishes old new id
Settles (Commit ops) old new id false = Forgets old new id
Settles PassedWrite old new id stands = new ≡ old

-- 131, or 132
abbrev pub note_for : ℕ → Bool → Note
note_for ticket true = Committed (record { 0 = ticket })
note_for ticket false = RolledBack (record { 0 = ticket })

abbrev pub note_of : Doubt → Bool → Note
note_of d stands = note_for d.ticket stands

-- what is told of a question for the ticket, where there was one
abbrev pub told_of : Result (Option Note) BankError → List Note
told_of (Ok None) = []
told_of (Ok (Some note)) = note ∷ []
told_of (Err e) = []

-- one that failed ends the line
abbrev pub end_of : Result (Option Note) BankError → Option Reply
end_of (Ok told) = None
end_of (Err e) = Some (bank_fault e)

-- what else of the tier is as it was
pub record KeepsRest (old new : Stored) : Type 0 where
  pub schema : new.schema ≡ old.schema
  pub catalog : new.catalog ≡ old.catalog
  pub clock : new.clock ≡ old.clock

-- A failed question has its cause, and what is told of another is no fault. Moments don't fall, and the slots stay.
pub record IsAsked (before behind : SiteState) (result : Result (Option Note) BankError) : Type 0 where
  pub cause : BankHasCause before behind result
  pub moment : before.moment ≤ behind.moment
  pub slots : KeepsSlots before.held behind.held
  pub quiet : (c : Code) → count_by (note_tells c) (told_of result) ≡ 0
