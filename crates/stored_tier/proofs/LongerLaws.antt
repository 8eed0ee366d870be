-- The history goes on over calls of the bank.
use Rattle.std.proofs.Common.{inl, inr, ℕ, List, [], Option, Result, Ok, Err, sym}
use Rattle.std.proofs.lemmas.List.{append-nil}
use Rattle.row_types.specs.declared.value.Value.{Value}
use Rattle.tier_base.specs.declared.number.TableId.{TableId}
use Rattle.tier_base.specs.declared.number.Ticket.{Ticket}
use Rattle.table_defs.specs.declared.definition.TableDef.{TableDef}
use Rattle.table_state.specs.declared.history.Entry.{Entry}
use Rattle.table_state.specs.declared.history.Sealed.{Sealed}
use Rattle.table_state.specs.declared.operation.Op.{Op}
use Rattle.evaluator.specs.declared.change.Change.{Change}
use Rattle.outside.specs.Bank.{AppliesOnce, Defines, Grows, TellsRow}
use Rattle.outside.specs.Console.{WritesForeign}
use Rattle.outside.specs.Others.{Around}
use Rattle.outside.specs.Passing.{CommitsAlone, PassesWrite}
use Rattle.outside.specs.declared.fault.BankError.{BankError}
use Rattle.outside.specs.declared.fault.BankError.TheVariants.{Failed, Memory}
use Rattle.outside.specs.declared.site.Applied.{Applied}
use Rattle.outside.specs.declared.site.Applied.TheVariants.{Now, Before, NotReady, Differs}
use Rattle.outside.specs.declared.site.Done.{Done as Wrote}
use Rattle.outside.specs.declared.site.Done.TheVariants.{Rows, Broken}
use Rattle.cache_tier.specs.Events.{at_history}
use Rattle.outside.specs.Calls.{Lengthens}
use Rattle.cache_tier.specs.Worlds.{World}
use Rattle.cache_tier.proofs.LeadLaws.{around}

pub no_longer : (h : List Entry) → Lengthens h h
no_longer h = record { more = []; is = sym (append-nil h) }

pub grows_longer : (own old new : List Entry) → Grows own old new → Lengthens old new
grows_longer own old new grows = record { more = own; is = grows }

-- with what comes of others
pub around_longer : (w : World) (step : List Entry → List Entry → Type 0) (later : List Entry) → ((old new : List Entry) → step old new → Lengthens old new) → Around w.shared step w.history later → Lengthens w.history later
around_longer w step later longer came = around w (at_history later w) step longer came

-- behind a call that only reads
pub read_longer : (w : World) (step : List Entry → List Entry → Type 0) (later : List Entry) → ((old new : List Entry) → step old new → Grows [] old new) → Around w.shared step w.history later → Lengthens w.history later
read_longer w step later reads came = around_longer w step later (λ old new s. grows_longer [] old new (reads old new s)) came

pub row_longer : (t : TableId) (key : List Value) (r : Result (Option (List Value)) BankError) (old new : List Entry) → TellsRow t key r old new → Lengthens old new
row_longer t key (Ok row) old new p = grows_longer [] old new p.0
row_longer t key (Err e) old new p = grows_longer [] old new p

pub defines_longer : (def : TableDef) (r : Result (Unit {0}) BankError) (old new : List Entry) → Defines def r old new → Lengthens old new
defines_longer def (Ok done) old new p = grows_longer _ old new p
defines_longer def (Err Memory) old new p = grows_longer [] old new p
defines_longer def (Err Failed) old new (inl p) = grows_longer [] old new p
defines_longer def (Err Failed) old new (inr p) = grows_longer _ old new p

pub foreign_longer : (changes : List Change) (r : Result Wrote BankError) (old new : List Entry) → WritesForeign changes r old new → Lengthens old new
foreign_longer changes (Ok (Rows n)) old new p = grows_longer _ old new p.grows
foreign_longer changes (Ok (Broken rule)) old new p = grows_longer [] old new p.0
foreign_longer changes (Err Memory) old new p = grows_longer [] old new p
foreign_longer changes (Err Failed) old new (inl p) = grows_longer [] old new p
foreign_longer changes (Err Failed) old new (inr p) = grows_longer _ old new p.1.grows

pub once_longer : (x : Sealed) (after : List Ticket) (r : Result Applied BankError) (old new : List Entry) → AppliesOnce x after r old new → Lengthens old new
once_longer x after (Ok (Now receipt)) old new p = grows_longer _ old new p.0.grows
once_longer x after (Ok (Before receipt)) old new p = grows_longer [] old new p.1
once_longer x after (Ok (NotReady ticket)) old new p = grows_longer [] old new p.3
once_longer x after (Ok (Differs table key row)) old new p = grows_longer [] old new p.3
once_longer x after (Err Memory) old new p = grows_longer [] old new p
once_longer x after (Err Failed) old new (inl p) = grows_longer [] old new p
once_longer x after (Err Failed) old new (inr p) = grows_longer _ old new p.grows

pub passes_longer : (ticket : ℕ) (change : Change) (ops : List Op) (r : Result Wrote BankError) (old new : List Entry) → PassesWrite ticket change ops r old new → Lengthens old new
passes_longer ticket change ops (Ok (Rows n)) old new p = grows_longer _ old new p.grows
passes_longer ticket change ops (Ok (Broken rule)) old new p = grows_longer [] old new p.0
passes_longer ticket change ops (Err Memory) old new p = grows_longer [] old new p
passes_longer ticket change ops (Err Failed) old new (inl p) = grows_longer [] old new p
passes_longer ticket change ops (Err Failed) old new (inr p) = grows_longer _ old new p.1.grows

pub alone_longer : (ticket : ℕ) (change : Change) (r : Result Wrote BankError) (old new : List Entry) → CommitsAlone ticket change r old new → Lengthens old new
alone_longer ticket change r old new c = passes_longer ticket change c.ops r old new c.passes
