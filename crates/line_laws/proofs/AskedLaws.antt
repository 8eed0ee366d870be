-- The question for the schema.
use Rattle.std.proofs.Common.{Bool, true, false, Result, Ok, Err, List, refl, sym, subst, arith}
use Rattle.table_defs.specs.declared.definition.TableDef.{TableDef}
use Rattle.table_state.specs.declared.history.Entry.{Entry}
use Rattle.outside.specs.Bank.{Grows, TellsSchema}
use Rattle.outside.specs.declared.fault.BankError.{BankError}
use Rattle.sql_subset.specs.declared.request.Line.{Line}
use Rattle.cache_tier.specs.ConsoleSteps.{Asked, AsksSchema, asks_schema, told}
use Rattle.cache_tier.specs.TierStates.{Tier}
use Rattle.cache_tier.specs.Worlds.{OnlyWhere}
use Rattle.recovery.specs.Journalled.{IsJournalledOn, IsQuiet}
use Rattle.recovery.proofs.JournalledLaws.{alike_self}
use Rattle.line_laws.specs.Keeping.{KeepsJournalAt}
use Rattle.line_laws.proofs.PartWords.{Any, call_goes, same_on, still_quiet}

schema_quiet : (result : Result (List TableDef) BankError) (old new : List Entry) → TellsSchema result old new → Grows (Rattle.std.proofs.Common.[]) old new
schema_quiet (Ok schema) old new t = t.0
schema_quiet (Err e) old new t = t

told_quiet : (result : Result (List TableDef) BankError) (t : Tier) → IsQuiet t (told result t)
told_quiet (Ok schema) t = record { log = refl; next = omega arith; groups = alike_self t.groups }
told_quiet (Err e) t = still_quiet t

pub asks_kept : (l : Line) → KeepsJournalAt (AsksSchema l)
asks_kept l w w' early stop stands j apart q ok = by (asks_schema w.tier l) q
  where
    by : (b : Bool) → OnlyWhere b Asked w w' stop → IsJournalledOn w' early
    by true a = (call_goes Any w w' early (TellsSchema a.result) (schema_quiet a.result) j apart a.call (subst (IsQuiet w.tier) (sym a.tier) (told_quiet a.result w.tier)) tt).on
    by false a = same_on w w' early a.0 j
