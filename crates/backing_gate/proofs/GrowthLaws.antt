-- The own steps of calls put entries behind the history.
use Rattle.std.proofs.Common.{inl, inr, ℕ, Bool, Option, Result, Ok, Err, List, [], ◌∷◌}
use Rattle.row_types.specs.declared.value.Value.{Value}
use Rattle.tier_base.specs.declared.number.Position.{Position}
use Rattle.tier_base.specs.declared.number.TableId.{TableId}
use Rattle.tier_base.specs.declared.number.Ticket.{Ticket}
use Rattle.table_defs.specs.declared.definition.TableDef.{TableDef}
use Rattle.table_state.specs.declared.footprint.RowKey.{RowKey}
use Rattle.table_state.specs.declared.history.Entry.{Entry}
use Rattle.table_state.specs.declared.history.Entry.TheVariants.{Definition, Foreign, Own}
use Rattle.table_state.specs.declared.history.Sealed.{Sealed}
use Rattle.table_state.specs.Histories.{entry_of}
use Rattle.evaluator.specs.declared.change.Change.{Change}
use Rattle.instances.specs.declared.tree.Tree.{Tree}
use Rattle.outside.specs.Bank.{AppliesOnce, Defines, TellsRecorded, TellsRow, TellsSchema, WaitsForOne}
use Rattle.outside.specs.Changes.{TakesChanges}
use Rattle.outside.specs.Console.{TakesSnapshot, WritesForeign}
use Rattle.outside.specs.Passing.{CommitsAlone}
use Rattle.outside.specs.Reaching.{Reaches}
use Rattle.outside.specs.declared.fault.BankError.{BankError}
use Rattle.outside.specs.declared.fault.BankError.TheVariants.{Failed, Memory}
use Rattle.outside.specs.declared.changes.Changes.{Changes}
use Rattle.outside.specs.declared.site.Applied.{Applied}
use Rattle.outside.specs.declared.site.Applied.TheVariants.{Now, Before, NotReady, Differs}
use Rattle.outside.specs.declared.site.Done.{Done}
use Rattle.outside.specs.declared.site.Done.TheVariants.{Rows, Broken}
use Rattle.outside.specs.declared.site.Reached.{Reached}
use Rattle.outside.specs.declared.site.Snapshot.{Snapshot}
use Rattle.backing_gate.proofs.MomentLaws.{Extends}

pub schema_grows : (result : Result (List TableDef) BankError) (old new : List Entry) → TellsSchema result old new → Extends old new
schema_grows (Ok schema) old new h = ([], h.0)
schema_grows (Err e) old new h = ([], h)

pub define_grows : (def : TableDef) (result : Result (Unit {0}) BankError) (old new : List Entry) → Defines def result old new → Extends old new
define_grows def (Ok done) old new h = (Definition def ∷ [], h)
define_grows def (Err Memory) old new h = ([], h)
define_grows def (Err Failed) old new h = elim h [ inl e ↦ ([], e) | inr e ↦ (Definition def ∷ [], e) ]

pub apply_grows : (s : Sealed) (after : List Ticket) (result : Result Applied BankError) (old new : List Entry) → AppliesOnce s after result old new → Extends old new
apply_grows s after (Ok (Now receipt)) old new h = (entry_of s ∷ [], h.0.grows)
apply_grows s after (Ok (Before receipt)) old new h = ([], h.1)
apply_grows s after (Ok (NotReady ticket)) old new h = ([], h.3)
apply_grows s after (Ok (Differs table key row)) old new h = ([], h.3)
apply_grows s after (Err Memory) old new h = ([], h)
apply_grows s after (Err Failed) old new h = elim h [ inl e ↦ ([], e) | inr comes ↦ (entry_of s ∷ [], comes.grows) ]

-- who waits, waits for one of the tickets
pub apply_waits : (s : Sealed) (after : List Ticket) (result : Result Applied BankError) (old new : List Entry) → AppliesOnce s after result old new → WaitsForOne after result
apply_waits s after (Ok (Now receipt)) old new h = tt
apply_waits s after (Ok (Before receipt)) old new h = tt
apply_waits s after (Ok (NotReady ticket)) old new h = h.1
apply_waits s after (Ok (Differs table key row)) old new h = tt
apply_waits s after (Err e) old new h = tt

pub recorded_grows : (ticket : ℕ) (result : Result Bool BankError) (old new : List Entry) → TellsRecorded ticket result old new → Extends old new
recorded_grows ticket (Ok stands) old new h = ([], h.0)
recorded_grows ticket (Err e) old new h = ([], h)

pub find_grows : (table : TableId) (key : List Value) (result : Result (Option (List Value)) BankError) (old new : List Entry) → TellsRow table key result old new → Extends old new
find_grows table key (Ok row) old new h = ([], h.0)
find_grows table key (Err e) old new h = ([], h)

pub foreign_grows : (changes : List Change) (result : Result Done BankError) (old new : List Entry) → WritesForeign changes result old new → Extends old new
foreign_grows changes (Ok (Rows n)) old new h = (Foreign h.ops ∷ [], h.grows)
foreign_grows changes (Ok (Broken rule)) old new h = ([], h.0)
foreign_grows changes (Err Memory) old new h = ([], h)
foreign_grows changes (Err Failed) old new h = elim h [ inl e ↦ ([], e) | inr writes ↦ (Foreign writes.1.ops ∷ [], writes.1.grows) ]

pub passed_grows : (ticket : ℕ) (change : Change) (result : Result Done BankError) (old new : List Entry) → CommitsAlone ticket change result old new → Extends old new
passed_grows ticket change (Ok (Rows n)) old new h = (Own (record { 0 = ticket }) h.ops ∷ [], h.passes.grows)
passed_grows ticket change (Ok (Broken rule)) old new h = ([], h.passes.0)
passed_grows ticket change (Err Memory) old new h = ([], h.passes)
passed_grows ticket change (Err Failed) old new h = elim h.passes [ inl e ↦ ([], e) | inr writes ↦ (Own (record { 0 = ticket }) h.ops ∷ [], writes.1.grows) ]

pub snapshot_grows : (asked : List TableId) (result : Result Snapshot BankError) (old new : List Entry) → TakesSnapshot asked result old new → Extends old new
snapshot_grows asked (Ok snapshot) old new h = ([], h.0)
snapshot_grows asked (Err e) old new h = ([], h)

pub reach_grows : (tree : Tree) (table : TableId) (key : List Value) (result : Result Reached BankError) (old new : List Entry) → Reaches tree table key result old new → Extends old new
reach_grows tree table key (Ok reached) old new h = ([], h.0)
reach_grows tree table key (Err e) old new h = ([], h)

pub changes_grows : (since : Position) (trees : List Tree) (wants : List RowKey) (result : Result Changes BankError) (old new : List Entry) → TakesChanges since trees wants result old new → Extends old new
changes_grows since trees wants (Ok changes) old new h = ([], h.0)
changes_grows since trees wants (Err e) old new h = ([], h)
