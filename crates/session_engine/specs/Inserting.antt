-- INSERT of a row whose key isn't shown, over the stored tier. (TimesTen SQL Reference, "INSERT"; that its key is
-- checked at once against backing rows and what is pending is this project's rule.)

use Rattle.std.specs.Prelude.{◌≡◌, ◌≤◌, ℕ, List, [], ◌∷◌, ◌++◌, Option, Some, None, Bool, true, false, is_some, Result, Err, slice_get}
use Rattle.std.specs.Bool.{MatchBool}
use Rattle.std.specs.List.{list_any}
use Rattle.row_types.specs.declared.rule.Refused.{Refused}
use Rattle.row_types.specs.declared.rule.Refused.TheVariants as refused
use Rattle.row_types.specs.declared.rule.Rule.{Rule}
use Rattle.row_types.specs.declared.value.Value.{Value}
use Rattle.tier_base.specs.declared.number.SessionId.{SessionId}
use Rattle.tier_base.specs.declared.number.TableId.{TableId}
use Rattle.table_defs.specs.declared.definition.TableDef.{TableDef}
use Rattle.indexed_rows.specs.Rows.{key_of}
use Rattle.table_state.specs.declared.history.Sealed.{Sealed}
use Rattle.table_state.specs.declared.operation.Op.{Op}
use Rattle.table_state.specs.declared.operation.Op.TheVariants.{Insert}
use Rattle.table_state.specs.declared.refusal.ApplyError.{ApplyError}
use Rattle.table_state.specs.declared.refusal.ApplyError.TheVariants as error
use Rattle.table_state.specs.Footprints.{footprint_of, is_among}
use Rattle.table_state.specs.Operations.{applied_all}
use Rattle.table_state.specs.Refusals.{broken_by_all}
use Rattle.table_state.specs.Tables.{TableState}
use Rattle.open_sessions.specs.Lookups.{open_ops}
use Rattle.open_sessions.specs.Opening.{seen_all}
use Rattle.group_catalog.specs.Catalogs.{groups_in}
use Rattle.cache_tier.specs.Groups.{Group, group_over, is_table_of, is_writethrough}
use Rattle.cache_tier.specs.InsertSteps.{taken}
use Rattle.cache_tier.specs.TierStates.{Session, Tier}
use Rattle.cache_tier.specs.Worlds.{IsUnshared, World}
use Rattle.cache_tier.specs.declared.reply.Reply.{Reply}
use Rattle.cache_tier.specs.Pending.{last_written}
use Rattle.evaluator.specs.declared.change.Change.{Change}
use Rattle.session_engine.specs.Changing.{Changed, ChangesUnwritten, IsPrepared}
use Rattle.stored_tier.specs.Performing.{IsPerformed, StandsFor, reply_of}
use Rattle.stored_tier.specs.Sites.{IsAt}
use Rattle.outside.specs.Sites.{SiteState}
use Rattle.session_engine.specs.declared.preparing.Prepared.{Prepared}
use Rattle.session_engine.specs.declared.inserting.Known.{Known}
use Rattle.session_engine.specs.declared.inserting.Known.TheVariants as kind
use Rattle.session_engine.specs.declared.inserting.Weighed.{Weighed}
use Rattle.stored_tier.specs.declared.tier.Tier.{Tier as Stored}
use Rattle.stored_tier.specs.Stored.{HasSession, rows_of}

-- the operations write the key
abbrev pub writes_key : List TableDef → List Op → TableId → List Value → Bool
writes_key schema ops table key = is_among (footprint_of schema ops).written (record { table = table; key = key })

-- one of these transactions writes the key
abbrev pub some_writes_key : List TableDef → List Sealed → TableId → List Value → Bool
some_writes_key schema log table key = list_any (λ x. writes_key schema x.ops table key) log

-- operations that write the key leave a row there
abbrev pub leaves_row : List TableDef → List Op → TableId → List Value → Bool
leaves_row schema ops table key = is_some (last_written schema table key ops None)

-- the last transaction of a list that writes the key
pub record HasWriter (schema : List TableDef) (log : List Sealed) (table : TableId) (key : List Value) (one : Sealed)
    : Type 0 where
  pub before : List Sealed
  pub behind : List Sealed
  pub is : log ≡ before ++ one ∷ behind
  pub writes : writes_key schema one.ops table key ≡ true
  pub none : some_writes_key schema behind table key ≡ false

-- the group that has the table has been there since before the ticket
pub record IsSince (groups : List Group) (table : TableId) (ticket : ℕ) : Type 0 where
  pub group : Group
  pub over : group_over groups table ≡ Some group
  pub since : group.first ≤ ticket

-- the last of the unsettled transactions that writes the key leaves a row there, or none
pub record IsLeft (t : Stored) (table : TableId) (key : List Value) (leaves : Bool) : Type 0 where
  pub one : Sealed
  pub writer : HasWriter t.schema t.unsettled.items table key one
  pub since : IsSince (groups_in t.catalog) table one.ticket.0
  pub told : leaves ≡ leaves_row t.schema one.ops table key

-- the session's own operations write the key, or an unsettled transaction does, or none
abbrev pub KnowsKey : Stored → SessionId → TableId → List Value → Known → Type 0
KnowsKey t id table key kind.Own = writes_key t.schema (open_ops id (seen_all t.sessions)) table key ≡ true
KnowsKey t id table key (kind.Left leaves) =
    (writes_key t.schema (open_ops id (seen_all t.sessions)) table key ≡ false) × IsLeft t table key leaves
KnowsKey t id table key kind.Free =
    (writes_key t.schema (open_ops id (seen_all t.sessions)) table key ≡ false)
    × (some_writes_key t.schema t.unsettled.items table key ≡ false)

-- whether a row stands at the key, by the bank's: what the session itself has written is shown, and so there is none
abbrev pub has_row : Known → Option (List Value) → Bool
has_row kind.Own found = false
has_row (kind.Left leaves) found = leaves
has_row kind.Free found = is_some found

-- the rule, or that there is none
abbrev pub TellsRule : Option Rule → Option ApplyError → Type 0
TellsRule None fault = fault ≡ None
TellsRule (Some rule) fault = fault ≡ Some (error.Rule rule)

-- what the operations break over what the session of this number sees
abbrev pub IsJudged : Stored → SessionId → List Op → Option Rule → Type 0
IsJudged t id ops fault =
    (seen : TableState) → applied_all (open_ops id (seen_all t.sessions)) (rows_of t) ≡ Some seen
    → TellsRule fault (broken_by_all ops seen)

-- the operations are an INSERT of this row, of which this is known
pub record IsWeighedRow (t : Stored) (id : SessionId) (of : TableId) (row : List Value) (ops : List Op) (x : Weighed)
    : Type 0 where
  pub def : TableDef
  pub there : slice_get t.schema of.0 ≡ Some def
  pub table : x.table ≡ of
  pub key : x.key ≡ key_of def.primary_key row
  pub taken : (a : Tier) → a.schema ≡ t.schema → x.taken ≡ taken a of row
  pub known : KnowsKey t id of x.key x.known
  pub judged : IsJudged t id ops x.fault

pub record IsWeighed (t : Stored) (id : SessionId) (p : Prepared) (x : Weighed) : Type 0 where
  pub table : TableId
  pub row : List Value
  pub is : p.ops ≡ Insert table row ∷ []
  pub named : p.table ≡ table
  pub through : is_table_of is_writethrough (groups_in t.catalog) table ≡ true
  pub weighed : IsWeighedRow t id table row p.ops x

-- where no row stands at the key: the rule that the row breaks, or it is the session's
abbrev pub TakenFree : Stored → Stored → SessionId → Prepared → Option Rule → Result Reply Refused → Type 0
TakenFree old new id p (Some rule) result = (result ≡ Err (refused.Rule rule)) × (new ≡ old)
TakenFree old new id p None result = Changed old new id p result

-- what becomes of the row by the bank's answer, which doesn't count where the key is written already
abbrev pub TakenIn : Stored → Stored → SessionId → Prepared → Weighed → Option (List Value) → Result Reply Refused
    → Type 0
TakenIn old new id p x found result =
    MatchBool (has_row x.known found) ((result ≡ Err (refused.Rule x.taken)) × (new ≡ old))
    (TakenFree old new id p x.fault result)

-- in each world, the prepared write is done
abbrev pub InsertsAt : Stored → Stored → SiteState → SiteState → SessionId → Prepared → Result Reply Refused → Type 0
InsertsAt old new before behind id p result =
    (w : World) (s : Session) (change : Change) → HasSession old id s → IsAt before w → StandsFor old w → IsUnshared w
    → IsPrepared s change w p → IsPerformed new behind (λ w'. ChangesUnwritten change s w w' (reply_of result))
