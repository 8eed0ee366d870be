-- A ticket in doubt: the bank is asked whether it stands in the history, before any other use of it. (This project's
-- rule.)

use Rattle.std.specs.Prelude.{◌≡◌, ℕ, List, [], ◌∷◌, ◌++◌, Bool, true, false, Option, Some, None, Result, Ok, Err, if◌then◌else◌, nat_eq}
use Rattle.table_state.specs.declared.history.Entry.{Entry}
use Rattle.table_state.specs.declared.history.Entry.TheVariants.{Definition, Foreign, Own}
use Rattle.table_state.specs.declared.history.Sealed.{Sealed}
use Rattle.table_state.specs.declared.operation.Op.{Op}
use Rattle.outside.specs.Bank.{TellsRecorded}
use Rattle.outside.specs.declared.fault.BankError.{BankError}
use Rattle.cache_tier.specs.declared.reply.Reply.{Reply}
use Rattle.cache_tier.specs.declared.reply.Note.{Note}
use Rattle.cache_tier.specs.declared.reply.Note.TheVariants.{Committed, RolledBack}
use Rattle.cache_tier.specs.CommitSteps.{committed}
use Rattle.cache_tier.specs.TierStates.{ACommit, APassedWrite, Doubt, Doubted, Tier, with_session, at_rest}
use Rattle.cache_tier.specs.Worlds.{BankCall, World, bank_fault}

-- the operations with which a ticket stands there
abbrev pub ops_of : ℕ → List Entry → List Op
ops_of ticket [] = []
ops_of ticket (Definition def ∷ entries) = ops_of ticket entries
ops_of ticket (Foreign ops ∷ entries) = ops_of ticket entries
ops_of ticket (Own own ops ∷ entries) = if nat_eq own.0 ticket then ops else ops_of ticket entries

abbrev pub stood : Doubt → List Entry → Sealed
stood d history = record { ticket = record { 0 = d.ticket }; ops = ops_of d.ticket history }

-- 131: it stands there, and is committed in the cache, too
abbrev pub settled_committed : Doubted → Sealed → List ℕ → Tier → Tier
settled_committed ACommit x label t = record (committed x label t) { doubt = None }
settled_committed APassedWrite x label t = record t { log = t.log ++ x ∷ []; doubt = None }

-- 132: it doesn't; a commit is rolled back, and behind a passed-on write the session's own writes stay
abbrev pub settled_rolled_back : Doubted → List ℕ → Tier → Tier
settled_rolled_back ACommit label t = record (with_session label at_rest t) { doubt = None }
settled_rolled_back APassedWrite label t = record t { doubt = None }

abbrev pub settled : Doubt → List Entry → Result Bool BankError → Tier → Tier
settled d history (Ok true) t = settled_committed d.of (stood d history) d.session t
settled d history (Ok false) t = settled_rolled_back d.of d.session t
settled d history (Err e) t = t

abbrev pub settled_notes : Doubt → Result Bool BankError → List Note
settled_notes d (Ok true) = Committed (record { 0 = d.ticket }) ∷ []
settled_notes d (Ok false) = RolledBack (record { 0 = d.ticket }) ∷ []
settled_notes d (Err e) = []

abbrev pub settled_stop : Result Bool BankError → Option Reply
settled_stop (Ok stands) = None
settled_stop (Err e) = Some (bank_fault e)

pub record AsksRecorded (d : Doubt) (w w' : World) (notes : List Note) (stop : Option Reply) : Type 0 where
  pub result : Result Bool BankError
  pub call : BankCall (TellsRecorded d.ticket result) w w'
  pub tier : w'.tier ≡ settled d w'.history result w.tier
  pub told : notes ≡ settled_notes d result
  pub end : stop ≡ settled_stop result

-- the doubt, where there is one; a question that fails ends the line
abbrev pub SettlesDoubt : Option Doubt → World → World → List Note → Option Reply → Type 0
SettlesDoubt None w w' notes stop = (w' ≡ w) × (notes ≡ []) × (stop ≡ None)
SettlesDoubt (Some d) w w' notes stop = AsksRecorded d w w' notes stop
