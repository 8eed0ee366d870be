-- `import`: the rows of a CSV file go into a backing table, as one transaction of the console. (This project's rule;
-- RFC 4180; TimesTen SQL Reference, "INSERT".)

use Rattle.std.specs.Prelude.{◌≡◌, ℕ, List, [], ◌∷◌, Bool, true, false, Option, Some, None, Result, Ok, Err, slice_get, if◌then◌else◌}
use Rattle.std.specs.Option.{option_and_then}
use Rattle.tier_base.specs.Names.{folded, is_name}
use Rattle.tier_base.specs.declared.code.Code.TheVariants as code
use Rattle.tier_base.specs.declared.number.TableId.{TableId}
use Rattle.row_types.specs.declared.rule.Detail.TheVariants as detail
use Rattle.row_types.specs.declared.rule.Refused.{Refused}
use Rattle.row_types.specs.declared.rule.Refused.TheVariants as refused
use Rattle.row_types.specs.declared.rule.Rule.{Rule}
use Rattle.std.specs.Global.{Vec}
use Rattle.table_defs.specs.declared.definition.TableDef.{TableDef}
use Rattle.table_defs.specs.Names.{place_of_table}
use Rattle.evaluator.specs.declared.change.Change.{Change}
use Rattle.outside.specs.Console.{WritesForeign}
use Rattle.outside.specs.declared.fault.BankError.{BankError}
use Rattle.outside.specs.declared.site.Done.{Done as Wrote}
use Rattle.csv_import.specs.Inserts.{inserts_of, records_in}
use Rattle.cache_tier.specs.declared.reply.Reply.{Reply}
use Rattle.cache_tier.specs.declared.reply.Last.TheVariants.{Done}
use Rattle.cache_tier.specs.PassedSteps.{passed_reply}
use Rattle.cache_tier.specs.Routes.{is_written_through}
use Rattle.cache_tier.specs.Rules.{named}
use Rattle.cache_tier.specs.TierStates.{Tier}
use Rattle.cache_tier.specs.Worlds.{BankCall, Part, Quiet, Refuses, World, only}

-- the table of a word, with its definition
pub record Asked : Type 0 where
  pub id : TableId
  pub def : TableDef

abbrev pub asked_at : List TableDef → Option TableId → Option Asked
asked_at schema None = None
asked_at schema (Some id) = option_and_then (λ def. Some (record { id = id; def = def })) (slice_get schema id.0)

-- 102 of a word that is no table's name: of a name that name, of another word none
abbrev pub unknown_rule : List ℕ → Rule
unknown_rule word =
    if is_name word then named code.UnknownTable (folded word)
    else record { code = code.UnknownTable; detail = detail.NoType }

abbrev pub table_asked : List TableDef → List ℕ → Option Asked
table_asked schema word = if is_name word then asked_at schema (place_of_table schema (folded word)) else None

-- one transaction of others at the bank
pub record ImportsAll (changes : List Change) (w w' : World) (reply : Reply) : Type 0 where
  pub result : Result Wrote BankError
  pub call : BankCall (WritesForeign changes result) w w'
  pub tier : w'.tier ≡ w.tier
  pub answer : reply ≡ passed_reply result

-- the rows, or the first rule that the file breaks; of no row there is no transaction
abbrev pub ImportsRead : Result (List Change) Rule → Part
ImportsRead (Err rule) w w' reply = Refuses rule w w' reply
ImportsRead (Ok []) w w' reply = Quiet (w.tier, only (Done 0)) w w' reply
ImportsRead (Ok (change ∷ changes)) w w' reply = ImportsAll (change ∷ changes) w w' reply

-- 102 comes first, and then 121 of a writethrough group's table
abbrev pub inserts_behind : Bool → List ℕ → Asked → List ℕ → Result (List Change) Rule
inserts_behind true word asked bytes = Err (named code.WritethroughTable (folded word))
inserts_behind false word asked bytes = inserts_of asked.id asked.def (records_in bytes)

abbrev pub inserts_into : Tier → List ℕ → Option Asked → List ℕ → Result (List Change) Rule
inserts_into t word None bytes = Err (unknown_rule word)
inserts_into t word (Some asked) bytes = inserts_behind (is_written_through t asked.id) word asked bytes

-- the INSERTs of a file into the table of a word, or the first rule that is broken
abbrev pub inserts_for : Tier → List ℕ → List ℕ → Result (List Change) Rule
inserts_for t word bytes = inserts_into t word (table_asked t.schema word) bytes

abbrev pub Imports : List ℕ → List ℕ → Part
Imports word bytes w w' reply = ImportsRead (inserts_for w.tier word bytes) w w' reply

-- what a call answers that looks for them; memory may be wanting at any time
abbrev pub FindsInserts : Tier → List ℕ → List ℕ → Result (Vec Change) Refused → Type 0
FindsInserts t word bytes (Ok inserts) = inserts_for t word bytes ≡ Ok inserts.items
FindsInserts t word bytes (Err (refused.Rule rule)) = inserts_for t word bytes ≡ Err rule
FindsInserts t word bytes (Err refused.Memory) = Unit {0}
