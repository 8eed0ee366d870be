-- INSERT in the cache. (TimesTen SQL Reference, "INSERT"; TimesTen Cache User's Guide: writethrough cache groups.
-- That its key is checked at once against backing rows that aren't cached is this project's rule.)

use Rattle.std.specs.Prelude.{if◌then◌else◌, ◌≡◌, List, [], ◌∷◌, ◌++◌, Bool, Option, Some, slice_get, Result, Ok, Err}
use Rattle.std.specs.Bool.{MatchBool}
use Rattle.std.specs.FinMap.{contains_key}
use Rattle.row_types.specs.declared.value.Value.{Value}
use Rattle.table_state.specs.declared.history.Entry.{Entry}
use Rattle.table_state.specs.Tables.{TableState, table_at}
use Rattle.cache_tier.specs.declared.reply.Reply.{Reply}
use Rattle.cache_tier.specs.Shown.{seen_by, written_on}
use Rattle.cache_tier.specs.TierStates.{Tier, Session}
use Rattle.cache_tier.specs.Worlds.{Answer, Part, World, BankCall, Refuses, bank_fault, unless}
use Rattle.row_types.specs.declared.rule.Rule.{Rule}
use Rattle.tier_base.specs.declared.number.TableId.{TableId}
use Rattle.table_state.specs.declared.operation.Op.TheVariants.{Insert}
use Rattle.evaluator.specs.Cascades.{key_in}
use Rattle.outside.specs.Bank.{TellsRow}
use Rattle.outside.specs.declared.fault.BankError.{BankError}
use Rattle.cache_tier.specs.Routes.{table_name}
use Rattle.cache_tier.specs.Rules.{key_taken}
use Rattle.cache_tier.specs.OwnWrites.{written, apply_fault}

-- the key that an INSERT writes, in a state
abbrev pub has_key_in : TableState → TableId → List Value → Bool
has_key_in s table row = contains_key (table_at s table) (key_in (slice_get s.schema table.0) row)

abbrev pub taken : Tier → TableId → List Value → Rule
taken t table row = key_taken (table_name t table) (key_in (slice_get t.schema table.0) row)

-- the answer where the bank was asked: 107 in the virtual state with the own writes over it, then 108
abbrev pub insert_fault : Session → World → List Entry → TableId → List Value → Option Rule
insert_fault s w history table row =
    if has_key_in (written_on s history w.tier) table row
    then Some (taken w.tier table row)
    else apply_fault s w (Insert table row ∷ [])

abbrev pub insert_answer : Session → World → List Entry → TableId → List Value
    → Result (Option (List Value)) BankError → Answer
insert_answer s w history table row (Ok found) =
    unless w.tier (insert_fault s w history table row) (written s table (Insert table row ∷ []) w)
insert_answer s w history table row (Err e) = (w.tier, bank_fault e)

-- The key isn't shown: the bank is asked for it. The answer is by the history at the question.
pub record Finds (s : Session) (table : TableId) (row : List Value) (w w' : World) (reply : Reply) : Type 0 where
  pub result : Result (Option (List Value)) BankError
  pub call : BankCall (TellsRow table (key_in (slice_get w.tier.schema table.0) row) result) w w'
  pub answer : (w'.tier, reply) ≡ insert_answer s w (w.history ++ call.history.before) table row result

-- INSERT: 107 where the key is shown
abbrev pub Inserts : Session → TableId → List Value → Part
Inserts s table row w w' reply =
    MatchBool (has_key_in (seen_by s w.history w.tier) table row) (Refuses (taken w.tier table row) w w' reply)
    (Finds s table row w w' reply)
