-- A write that is passed on: it has a ticket, whose number is flushed first, and commits by itself at the backing
-- database. (TimesTen Cache User's Guide, "Setting a passthrough level"; that it commits by itself is this project's
-- rule.)

use Rattle.std.specs.Prelude.{◌≡◌, ℕ, ◌+◌, nat_le, not, List, [], ◌∷◌, ◌++◌, Option, Some, Result, Ok, Err}
use Rattle.std.specs.Option.{option_or}
use Rattle.tier_base.specs.Limits.{greatest}
use Rattle.tier_base.specs.declared.limit.Limit.TheVariants as limit
use Rattle.row_types.specs.declared.rule.Rule.{Rule}
use Rattle.table_state.specs.declared.operation.Op.{Op}
use Rattle.evaluator.specs.declared.change.Change.{Change}
use Rattle.resolution.specs.Writes.{PlacedChange, change_seen}
use Rattle.outside.specs.Passing.{PassesWrite}
use Rattle.outside.specs.declared.fault.BankError.{BankError}
use Rattle.outside.specs.declared.fault.BankError.TheVariants.{Failed, Memory}
use Rattle.outside.specs.declared.site.Done.{Done as Wrote}
use Rattle.outside.specs.declared.site.Done.TheVariants.{Rows, Broken}
use Rattle.cache_tier.specs.JournalSteps.{Flushes, journal_fault}
use Rattle.cache_tier.specs.declared.reply.Reply.{Reply}
use Rattle.cache_tier.specs.declared.reply.Last.TheVariants.{Done, No}
use Rattle.cache_tier.specs.Journals.{Numbers}
use Rattle.cache_tier.specs.Rules.{broken_if, past}
use Rattle.cache_tier.specs.TierStates.{APassedWrite, Session, Tier}
use Rattle.cache_tier.specs.Worlds.{BankCall, Becomes, Part, Then, ThenStage, Unless, World, bank_fault, only}

-- 119: no ticket is left
abbrev pub ticket_fault : Tier → Option Rule
ticket_fault t = broken_if (not (nat_le t.next (greatest limit.Tickets))) (past limit.Tickets)

-- the next ticket is drawn: it isn't used again
abbrev pub with_ticket : Tier → Tier
with_ticket t = record t { next = t.next + 1 }

-- the tier behind it: of a failed call the ticket is in doubt
abbrev pub after_passed : Session → ℕ → List Op → Result Wrote BankError → Tier → Tier
after_passed s ticket ops (Ok (Rows n)) t =
    record t { log = t.log ++ record { ticket = record { 0 = ticket }; ops = ops } ∷ [] }
after_passed s ticket ops (Ok (Broken rule)) t = t
after_passed s ticket ops (Err Memory) t = t
after_passed s ticket ops (Err Failed) t =
    record t { doubt = Some (record { ticket = ticket; session = s.label; of = APassedWrite }) }

abbrev pub passed_reply : Result Wrote BankError → Reply
passed_reply (Ok (Rows n)) = only (Done n)
passed_reply (Ok (Broken rule)) = only (No rule)
passed_reply (Err e) = bank_fault e

pub record WritesPassed (s : Session) (ticket : ℕ) (placed : PlacedChange) (w w' : World) (reply : Reply) : Type 0 where
  pub change : Change
  pub stands_for : change_seen change ≡ placed
  pub ops : List Op
  pub result : Result Wrote BankError
  pub call : BankCall (PassesWrite ticket change ops result) w w'
  pub tier : w'.tier ≡ after_passed s ticket ops result w.tier
  pub answer : reply ≡ passed_reply result

-- 119, then the number is flushed and the ticket drawn, then the bank decides
abbrev pub PassesOn : Session → PlacedChange → Part
PassesOn s placed w w' reply =
    Unless (option_or (ticket_fault w.tier) (journal_fault w (Numbers w.tier.next ∷ [])))
    (Then
    (ThenStage (Flushes (Numbers w.tier.next ∷ [])) (Becomes (λ mid. with_ticket mid.tier)))
    (WritesPassed s w.tier.next placed))
    w w' reply
