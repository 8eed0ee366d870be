-- COMMIT and ROLLBACK. (TimesTen Cache User's Guide: asynchronous writethrough commits in the cache and is propagated
-- later; synchronous writethrough is committed at the backing database before it is in the cache. Tickets are this
-- project's.)

use Rattle.std.specs.Prelude.{◌≡◌, ℕ, List, [], ◌∷◌, ◌++◌, Bool, length, map, Some, Result, Ok, Err}
use Rattle.std.specs.Bool.{MatchBool}
use Rattle.std.specs.List.{list_any}
use Rattle.std.specs.Option.{option_or}
use Rattle.tier_base.specs.declared.code.Code.TheVariants as code
use Rattle.tier_base.specs.declared.limit.Limit.TheVariants as limit
use Rattle.row_types.specs.declared.rule.Detail.TheVariants as detail
use Rattle.table_state.specs.declared.history.Sealed.{Sealed}
use Rattle.table_state.specs.declared.operation.Op.{Op}
use Rattle.table_state.specs.Operations.{table_of}
use Rattle.outside.specs.Bank.{AppliesOnce}
use Rattle.outside.specs.declared.fault.BankError.{BankError}
use Rattle.outside.specs.declared.fault.BankError.TheVariants.{Failed, Memory}
use Rattle.outside.specs.declared.site.Applied.{Applied}
use Rattle.outside.specs.declared.site.Applied.TheVariants.{Now, Before, NotReady, Differs}
use Rattle.cache_tier.specs.JournalSteps.{Flushes, Records, journal_fault}
use Rattle.cache_tier.specs.declared.reply.Reply.{Reply}
use Rattle.cache_tier.specs.declared.reply.Last.TheVariants.{Done, Fault}
use Rattle.cache_tier.specs.Groups.{is_synchronous, is_table_of}
use Rattle.cache_tier.specs.Journals.{Commits, Prepares}
use Rattle.cache_tier.specs.PassedSteps.{ticket_fault, with_ticket}
use Rattle.cache_tier.specs.Reading.{Answers}
use Rattle.cache_tier.specs.Recency.{with_commit}
use Rattle.cache_tier.specs.Routes.{table_name}
use Rattle.cache_tier.specs.Rules.{at_limit}
use Rattle.cache_tier.specs.Shown.{no_rows}
use Rattle.cache_tier.specs.TierStates.{ACommit, Session, Tier, at_rest, with_session}
use Rattle.cache_tier.specs.Worlds.{BankCall, Becomes, Part, Quiet, Then, ThenStage, Unless, World, bank_fault, only}

-- what the session's writes become at their commit
abbrev pub sealed_own : Tier → Session → Sealed
sealed_own t s = record { ticket = record { 0 = t.next }; ops = s.own }

-- the transaction is committed in the cache: roots that it inserted and deleted enter and leave the key lists
abbrev pub committed : Sealed → List ℕ → Tier → Tier
committed x label t =
    with_session label at_rest
    (record t { groups = map (with_commit (no_rows t) x.ops) t.groups; log = t.log ++ x ∷ [] })

-- an asynchronous one waits for its receipt, too
abbrev pub committed_unsettled : Sealed → List ℕ → Tier → Tier
committed_unsettled x label t = record (committed x label (with_ticket t)) { unsettled = t.unsettled ++ x ∷ [] }

-- one of the session's writes is on a table of a synchronous group: then all are
abbrev pub is_synchronous_own : Tier → Session → Bool
is_synchronous_own t s = list_any (λ op. is_table_of is_synchronous t.groups (table_of op)) s.own

-- an asynchronous commit: 119 of the pending ones, the tickets and the journal
abbrev pub CommitsLater : Session → Part
CommitsLater s w w' reply =
    Unless
    (option_or (at_limit limit.Pending (length w.tier.unsettled))
    (option_or (ticket_fault w.tier) (journal_fault w (Commits (sealed_own w.tier s) ∷ []))))
    (Then (Records s.durable (Commits (sealed_own w.tier s)))
    (Answers (λ mid.
    (committed_unsettled (sealed_own w.tier s) s.label mid.tier, only (Done w.tier.next)))))
    w w' reply

-- what the bank's answer to a synchronous transaction makes of the tier, whose ticket is drawn
abbrev pub after_applied : Sealed → List ℕ → Result Applied BankError → Tier → Tier
after_applied x label (Ok (Now receipt)) t = committed x label t
after_applied x label (Ok (Before receipt)) t = committed x label t
after_applied x label (Ok (NotReady ticket)) t = t
after_applied x label (Ok (Differs table key row)) t = t
after_applied x label (Err Memory) t = t
after_applied x label (Err Failed) t =
    record t { doubt = Some (record { ticket = x.ticket.0; session = label; of = ACommit }) }

abbrev pub applied_reply : Sealed → Result Applied BankError → Tier → Reply
applied_reply x (Ok (Now receipt)) t = only (Done x.ticket.0)
applied_reply x (Ok (Before receipt)) t = only (Done x.ticket.0)
applied_reply x (Ok (NotReady ticket)) t = bank_fault Failed
applied_reply x (Ok (Differs table key row)) t =
    only (Fault (record { code = code.RowDiffers; detail = detail.Row (table_name t table) key }))
applied_reply x (Err e) t = bank_fault e

-- the transaction is applied at the bank, with its ticket; of a failed call it is in doubt, and the locks stay
pub record AppliesNow (x : Sealed) (label : List ℕ) (w w' : World) (reply : Reply) : Type 0 where
  pub result : Result Applied BankError
  pub call : BankCall (AppliesOnce x [] result) w w'
  pub tier : w'.tier ≡ after_applied x label result w.tier
  pub answer : reply ≡ applied_reply x result w.tier

-- a synchronous commit: 119, then a prepare record, the ticket, the bank
abbrev pub CommitsNow : Session → Part
CommitsNow s w w' reply =
    Unless (option_or (ticket_fault w.tier) (journal_fault w (Prepares (sealed_own w.tier s) ∷ [])))
    (Then
    (ThenStage (Flushes (Prepares (sealed_own w.tier s) ∷ [])) (Becomes (λ mid. with_ticket mid.tier)))
    (AppliesNow (sealed_own w.tier s) s.label))
    w w' reply

-- without writes a COMMIT uses no ticket; it ends the transaction all the same
abbrev pub ends : Session → Tier → Tier
ends s t = with_session s.label at_rest t

abbrev pub CommitsOwn : Session → List Op → Part
CommitsOwn s [] w w' reply = Quiet (ends s w.tier, only (Done 0)) w w' reply
CommitsOwn s (op ∷ ops) w w' reply =
    MatchBool (is_synchronous_own w.tier s) (CommitsNow s w w' reply) (CommitsLater s w w' reply)

-- COMMIT
abbrev pub CommitsAll : Session → Part
CommitsAll s = CommitsOwn s s.own

-- ROLLBACK
abbrev pub RollsBack : Session → Part
RollsBack s w w' reply = Quiet (ends s w.tier, only (Done 0)) w w' reply
