-- The console: CREATE TABLE, its writes as one transaction of others, and the clock. And the question for the schema,
-- which the tier asks after a definition that failed. (This project's rules; TimesTen SQL Reference, "CREATE TABLE",
-- "INSERT", "UPDATE", "DELETE".)

use Rattle.std.specs.Prelude.{◌≡◌, ℕ, List, [], ◌∷◌, ◌++◌, Bool, true, false, ◌&&◌, not, Option, Some, None, Result, Ok, Err, map, if◌then◌else◌}
use Rattle.std.specs.List.{list_any}
use Rattle.std.specs.Option.{option_map, option_or}
use Rattle.tier_base.specs.declared.code.Code.TheVariants as code
use Rattle.tier_base.specs.declared.number.TableId.{TableId}
use Rattle.row_types.specs.declared.declaration.TableDeclaration.{TableDeclaration}
use Rattle.row_types.specs.declared.rule.Rule.{Rule}
use Rattle.table_defs.specs.Declarations.{broken_at, fault_of, limit_of, resolved}
use Rattle.table_defs.specs.Names.{place_of_table}
use Rattle.table_defs.specs.declared.definition.ForeignKey.{ForeignKey}
use Rattle.table_defs.specs.declared.definition.TableDef.{TableDef}
use Rattle.evaluator.specs.declared.change.Change.{Change}
use Rattle.outside.specs.Bank.{Defines, TellsSchema}
use Rattle.outside.specs.Console.{WritesForeign}
use Rattle.outside.specs.declared.fault.BankError.{BankError}
use Rattle.outside.specs.declared.fault.BankError.TheVariants.{Failed, Memory}
use Rattle.outside.specs.declared.site.Done.{Done as Wrote}
use Rattle.resolution.specs.Writes.{change_seen, named_writes, resolved_writes, table_of}
use Rattle.sql_query.specs.declared.write.Write.{Write}
use Rattle.cache_tier.specs.declared.reply.Reply.{Reply}
use Rattle.cache_tier.specs.declared.reply.Last.TheVariants.{Done}
use Rattle.sql_subset.specs.declared.request.ConsoleRequest.{ConsoleRequest}
use Rattle.sql_subset.specs.declared.request.ConsoleRequest.TheVariants as console
use Rattle.sql_subset.specs.declared.request.Request.{Request}
use Rattle.sql_subset.specs.declared.request.Request.TheVariants as asks_for
use Rattle.sql_subset.specs.declared.stmt.Stmt.{Stmt}
use Rattle.sql_subset.specs.declared.stmt.Stmt.TheVariants as says
use Rattle.sql_subset.specs.declared.request.Line.{Line}
use Rattle.sql_subset.specs.declared.request.Line.TheVariants as line
use Rattle.cache_tier.specs.Definitions.{names_in, table_names}
use Rattle.cache_tier.specs.PassedSteps.{passed_reply}
use Rattle.cache_tier.specs.Routes.{is_cached, is_written_through}
use Rattle.cache_tier.specs.Rules.{named, past, rule_in}
use Rattle.cache_tier.specs.TierStates.{Tier}
use Rattle.cache_tier.specs.Worlds.{Answer, BankCall, OnlyWhere, Part, Stage, Unless, World, bank_fault, only}

-- the table of a name, where it is one of a writethrough group, or of any group
abbrev pub is_name_of : (TableId → Bool) → Tier → List ℕ → Bool
is_name_of test t name = of_place (place_of_table t.schema name)
  where
    of_place : Option TableId → Bool
    of_place None = false
    of_place (Some table) = test table

abbrev pub is_cached_name : Tier → List ℕ → Bool
is_cached_name t name = is_name_of (is_cached t) t name

-- the tables that a statement names
abbrev pub names_of : Stmt → List (List ℕ)
names_of (says.Select q) = map (λ f. f.table) q.tables
names_of (says.Write w) = table_of w ∷ []
names_of (says.CreateGroup d) = table_names d
names_of (says.CreateIndex i) = []
names_of (says.Load load) = []
names_of (says.Refresh load) = []
names_of (says.Unload u) = []
names_of (says.Flush u) = []
names_of (says.Alter a) = []
names_of (says.DropGroup name) = []
names_of (says.DropIndex name) = []
names_of (says.Call c) = []
names_of says.Commit = []
names_of says.Rollback = []

abbrev pub names_of_request : Request → List (List ℕ)
names_of_request (asks_for.Open options) = []
names_of_request asks_for.Close = []
names_of_request (asks_for.Statement s) = names_of s

abbrev pub names_of_line : Line → List (List ℕ)
names_of_line (line.Session label request) = names_of_request request
names_of_line (line.Console (console.CreateTable d)) = names_in d
names_of_line (line.Console (console.Writes writes)) = map table_of writes
names_of_line (line.Clock ms) = []

-- the tier asks before a statement that names a table which isn't cached, where a definition has failed since it was
-- told
abbrev pub asks_schema : Tier → Line → Bool
asks_schema t l = t.stale && list_any (λ name. not (is_cached_name t name)) (names_of_line l)

abbrev pub told : Result (List TableDef) BankError → Tier → Tier
told (Ok schema) t = record t { schema = schema; stale = false }
told (Err e) t = t

abbrev pub told_stop : Result (List TableDef) BankError → Option Reply
told_stop (Ok schema) = None
told_stop (Err e) = Some (bank_fault e)

pub record Asked (w w' : World) (stop : Option Reply) : Type 0 where
  pub result : Result (List TableDef) BankError
  pub call : BankCall (TellsSchema result) w w'
  pub tier : w'.tier ≡ told result w.tier
  pub end : stop ≡ told_stop result

abbrev pub AsksSchema : Line → Stage
AsksSchema l w w' stop = OnlyWhere (asks_schema w.tier l) Asked w w' stop

-- 121: the foreign key refers to a table of a writethrough group
abbrev pub refers_to_writethrough : Tier → Option ForeignKey → Bool
refers_to_writethrough t None = false
refers_to_writethrough t (Some foreign) = is_written_through t foreign.parent

-- CREATE TABLE: what the declaration breaks, then 121, then 119
abbrev pub table_fault : Tier → TableDeclaration → Option Rule
table_fault t d =
    option_or (fault_of d t.schema)
    (option_or
    (if refers_to_writethrough t (resolved d t.schema).foreign_key
    then broken_at code.WritethroughTable (option_map (λ f. f.parent) d.foreign_key)
    else None)
    (option_map past (limit_of (resolved d t.schema) t.schema)))

-- what the tier knows then
abbrev pub after_define : TableDef → Result (Unit {0}) BankError → Tier → Tier
after_define def (Ok done) t = record t { schema = t.schema ++ def ∷ [] }
after_define def (Err Failed) t = record t { stale = true }
after_define def (Err Memory) t = t

abbrev pub define_reply : Result (Unit {0}) BankError → Reply
define_reply (Ok done) = only (Done 0)
define_reply (Err e) = bank_fault e

pub record Creates (def : TableDef) (w w' : World) (reply : Reply) : Type 0 where
  pub result : Result (Unit {0}) BankError
  pub call : BankCall (Defines def result) w w'
  pub tier : w'.tier ≡ after_define def result w.tier
  pub answer : reply ≡ define_reply result

abbrev pub CreatesTable : TableDeclaration → Part
CreatesTable d w w' reply = Unless (table_fault w.tier d) (Creates (resolved d w.tier.schema)) w w' reply

-- the first of the writes on a table of a writethrough group
abbrev pub first_writethrough : Tier → List Write → Option Rule
first_writethrough t [] = None
first_writethrough t (w ∷ writes) =
    if is_name_of (is_written_through t) t (table_of w)
    then Some (named code.WritethroughTable (table_of w))
    else first_writethrough t writes

-- names of all writes, then 118, 104 and 105 of all, then 121
abbrev pub writes_fault : Tier → List Write → Option Rule
writes_fault t writes =
    option_or (rule_in (named_writes t.schema writes))
    (option_or (rule_in (resolved_writes t.schema writes)) (first_writethrough t writes))

-- one transaction of others at the bank
pub record WritesAll (writes : List Write) (w w' : World) (reply : Reply) : Type 0 where
  pub changes : List Change
  pub stand_for : resolved_writes w.tier.schema writes ≡ Ok (map change_seen changes)
  pub result : Result Wrote BankError
  pub call : BankCall (WritesForeign changes result) w w'
  pub tier : w'.tier ≡ w.tier
  pub answer : reply ≡ passed_reply result

abbrev pub DoesConsole : ConsoleRequest → Part
DoesConsole (console.CreateTable d) w w' reply = CreatesTable d w w' reply
DoesConsole (console.Writes writes) w w' reply = Unless (writes_fault w.tier writes) (WritesAll writes) w w' reply

-- clock: the sum of the additions, which are counted before the due work
abbrev pub clock_answer : Tier → Answer
clock_answer t = (t, only (Done t.added))
