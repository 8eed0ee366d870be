-- What several writes do as one transaction. (TimesTen SQL Reference, INSERT, UPDATE, DELETE; that the writes of a
-- transaction are done one after the other, and all or none, is what its COMMIT promises.)

use Rattle.std.specs.Prelude.{◌≡◌, ℕ, ◌+◌, ◌-◌, List, [], ◌∷◌, ◌++◌, Option, Some, None, Bool, ◌==◌, count_by, length, unwrap_or, Result, Ok, Err}
use Rattle.evaluator.specs.tier_base.specs.Limits.{greatest}
use Rattle.evaluator.specs.tier_base.specs.declared.limit.Limit.TheVariants.{Operations}
use Rattle.evaluator.specs.tier_base.specs.declared.number.TableId.{TableId}
use Rattle.evaluator.specs.row_types.specs.declared.rule.Rule.{Rule}
use Rattle.evaluator.specs.table_state.specs.declared.operation.Op.{Op}
use Rattle.evaluator.specs.table_state.specs.declared.refusal.ApplyError.{ApplyError}
use Rattle.evaluator.specs.table_state.specs.declared.refusal.ApplyError.TheVariants as error
use Rattle.evaluator.specs.table_state.specs.Operations.{applied_all, table_of}
use Rattle.evaluator.specs.table_state.specs.Refusals.{broken_by_all}
use Rattle.evaluator.specs.table_state.specs.Tables.{TableState}
use Rattle.evaluator.specs.declared.change.Change.{Change}
use Rattle.evaluator.specs.Writes.{effects_of}
use Rattle.transactions.specs.declared.written.Written.{Written}

-- what writes did, and the state that they leave
pub record Done : Type 0 where
  pub written : Written
  pub state : TableState

abbrev pub is_of : TableId → Op → Bool
is_of t op = (table_of op).0 == t.0

-- How many rows of the table the operations write. Rows that leave with one of them by ON DELETE CASCADE are another
-- table's.
abbrev pub rows_in : TableId → List Op → ℕ
rows_in t ops = count_by (is_of t) ops

-- a state is left where none of the operations breaks a rule
abbrev pub left_by : Change → TableState → List Op → Option ApplyError → Result Done ApplyError
left_by change s ops (Some broken) = Err broken
left_by change s ops None =
    Ok (record {
      written = record { ops = ops; rows = rows_in change.table ops };
      state =
          unwrap_or (applied_all ops s) s;
    })

-- the operations of the write are applied one after the other; the first rule that one of them breaks is told
abbrev pub applied_to : Change → TableState → Result (List Op) Rule → Result Done ApplyError
applied_to change s (Err rule) = Err (error.Rule rule)
applied_to change s (Ok ops) = left_by change s ops (broken_by_all ops s)

-- one write, of whose transaction so many operations may still come
abbrev pub written_by : ℕ → Change → TableState → Result Done ApplyError
written_by room change s = applied_to change s (effects_of room change s)

-- nothing was done
abbrev pub nothing : Written
nothing = record { ops = []; rows = 0 }

-- the operations one list behind the other, and the rows together
abbrev pub joined : Written → Written → Written
joined a b = record { ops = a.ops ++ b.ops; rows = a.rows + b.rows }

-- the same behind what was done before
abbrev pub behind : Written → Result Done ApplyError → Result Done ApplyError
behind before (Err e) = Err e
behind before (Ok done) = Ok (record { written = joined before done.written; state = done.state })

abbrev pub and_then : (Done → Result Done ApplyError) → Result Done ApplyError → Result Done ApplyError
and_then f (Err e) = Err e
and_then f (Ok done) = f done

-- Write by write, each over the state that those before it leave. So many operations may be done in all.
abbrev pub written_in : ℕ → List Change → TableState → Result Done ApplyError
written_in room [] s = Ok (record { written = nothing; state = s })
written_in room (change ∷ changes) s =
    and_then (λ first. behind first.written (written_in (room - length first.written.ops) changes first.state))
    (written_by room change s)

-- the writes of a transaction
abbrev pub written_by_all : List Change → TableState → Result Done ApplyError
written_by_all changes s = written_in (greatest Operations) changes s

-- the error says why there is no state behind; memory may be wanting at any time
abbrev pub Tells : Result Done ApplyError → ApplyError → Type 0
Tells done (error.Rule rule) = done ≡ Err (error.Rule rule)
Tells done (error.Differs t key row) = done ≡ Err (error.Differs t key row)
Tells done error.Memory = Unit {0}

-- this was done, and this is the state behind
abbrev pub Leaves : Result Done ApplyError → TableState → Written → Type 0
Leaves done new written = done ≡ Ok (record { written = written; state = new })
