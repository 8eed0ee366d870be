-- What a write does. (TimesTen SQL Reference, INSERT, UPDATE, DELETE; codes and their order are this project's rule.)

use Rattle.std.specs.Prelude.{ℕ, List, [], ◌∷◌, Option, Some, None, Bool, false, not, nat_lt, length, Result, Ok, Err, slice_get, if◌then◌else◌}
use Rattle.std.specs.FinMap.{values, len}
use Rattle.expressions.specs.tier_base.specs.Limits.{greatest}
use Rattle.expressions.specs.tier_base.specs.declared.code.Code.{Code}
use Rattle.expressions.specs.tier_base.specs.declared.code.Code.TheVariants as code
use Rattle.expressions.specs.tier_base.specs.declared.limit.Limit.TheVariants.{Rows, Operations}
use Rattle.expressions.specs.tier_base.specs.declared.number.TableId.{TableId}
use Rattle.expressions.specs.row_types.specs.declared.column.Column.{Column}
use Rattle.expressions.specs.row_types.specs.declared.rule.Rule.{Rule}
use Rattle.expressions.specs.row_types.specs.declared.truth.Truth.{Truth}
use Rattle.expressions.specs.row_types.specs.declared.truth.Truth.TheVariants.{True, False, Unknown}
use Rattle.expressions.specs.row_types.specs.declared.value.Value.{Value}
use Rattle.expressions.specs.row_types.specs.Columns.{stored_in}
use Rattle.table_state.specs.table_defs.specs.declared.definition.TableDef.{TableDef}
use Rattle.table_state.specs.declared.operation.Op.{Op}
use Rattle.table_state.specs.declared.operation.Op.TheVariants as op
use Rattle.table_state.specs.Refusals.{is_code}
use Rattle.table_state.specs.Tables.{TableState, table_at}
use Rattle.expressions.specs.Trees.{Cond, Expr}
use Rattle.expressions.specs.Expressions.{eval, with_both}
use Rattle.expressions.specs.Conditions.{holds}
use Rattle.evaluator.specs.declared.change.Action.{Action}
use Rattle.evaluator.specs.declared.change.Action.TheVariants.{Insert, Update, Delete}
use Rattle.evaluator.specs.declared.change.Change.{Change}
use Rattle.evaluator.specs.Cascades.{deleted}
use Rattle.evaluator.specs.Rules.{each, limit, no_table, or_overflow, then_do, unless}

-- the values of expressions on a row; none where one is 120
abbrev pub values_of : List Expr → List Value → Option (List Value)
values_of [] row = Some []
values_of (e ∷ es) row = with_both (λ v vs. Some (v ∷ vs)) (eval e row) (values_of es row)

-- that the column keeps a value, or why it doesn't
abbrev pub done : Result Value Code → Result (Unit {0}) Code
done (Ok value) = Ok tt
done (Err e) = Err e

abbrev pub refuses : Code → Column → Option Value → Bool
refuses c column None = false
refuses c column (Some value) = is_code c (done (stored_in column value))

-- the first column, in table order, that refuses its value for this cause
abbrev pub first_refusing : Code → List Column → List Expr → List Value → Option (List ℕ)
first_refusing c [] es row = None
first_refusing c (column ∷ columns) [] row = None
first_refusing c (column ∷ columns) (e ∷ es) row =
    if refuses c column (eval e row) then Some column.name else first_refusing c columns es row

abbrev pub kept : Result Value Code → Option Value
kept (Ok value) = Some value
kept (Err e) = None

-- what the column keeps of a value: a number is rounded to the column's scale
abbrev pub stored_value : Column → Option Value → Option Value
stored_value column None = None
stored_value column (Some value) = kept (stored_in column value)

-- what the columns keep of the values of expressions; none where one is 120 or isn't kept
abbrev pub stored_values : List Column → List Expr → List Value → Option (List Value)
stored_values [] es row = Some []
stored_values (column ∷ columns) [] row = Some []
stored_values (column ∷ columns) (e ∷ es) row =
    with_both (λ v vs. Some (v ∷ vs)) (stored_value column (eval e row)) (stored_values columns es row)

-- The row that the columns keep of what the expressions give, read on another row: 105 of a column that can't hold its
-- value, rounded to its scale, then 106 of a column that refuses NULL, then 120.
abbrev pub built : List Column → List Expr → List Value → Result (List Value) Rule
built columns es row =
    unless code.OutOfRange (first_refusing code.OutOfRange columns es row)
    (unless code.NullNotAllowed (first_refusing code.NullNotAllowed columns es row)
    (or_overflow (stored_values columns es row)))

-- without a condition each row is selected
abbrev pub selects : Option Cond → List Value → Option Truth
selects None row = Some True
selects (Some c) row = holds c row

abbrev pub if_true : {A : Type 0} → Truth → Result (List A) Rule → Result (List A) Rule
if_true True r = r
if_true False r = Ok []
if_true Unknown r = Ok []

-- nothing of a row that isn't selected; 120 where the condition is
abbrev pub on_selected : {A : Type 0} → Option Cond → Result (List A) Rule → List Value → Result (List A) Rule
on_selected filter r row = then_do (λ t. if_true t r) (or_overflow (selects filter row))

abbrev pub filter_of : Action → Option Cond
filter_of (Insert es) = None
filter_of (Update es filter) = filter
filter_of (Delete filter) = filter

abbrev pub one_op : (List Value → Op) → Result (List Value) Rule → Result (List Op) Rule
one_op f r = then_do (λ row. Ok (f row ∷ [])) r

-- what is done to a selected row: an update is read on the old row
abbrev pub done_to : TableState → TableId → TableDef → Action → List Value → Result (List Op) Rule
done_to s t def (Insert es) row = Ok []
done_to s t def (Update es filter) row = one_op (op.Update t row) (built def.columns es row)
done_to s t def (Delete filter) row = Ok (deleted (length s.schema) s t row)

-- what is done to a row
abbrev pub done_on : TableState → TableId → TableDef → Action → List Value → Result (List Op) Rule
done_on s t def action row = on_selected (filter_of action) (done_to s t def action row) row

-- what is done to the rows of the table, in key order
abbrev pub done_in : TableState → TableId → TableDef → Action → Result (List Op) Rule
done_in s t def (Insert es) = one_op (op.Insert t) (built def.columns es [])
done_in s t def (Update es filter) = each (done_on s t def (Update es filter)) (values (table_at s t))
done_in s t def (Delete filter) = each (done_on s t def (Delete filter)) (values (table_at s t))

-- a row more than a table may have
abbrev pub passes_rows : TableState → TableId → Action → Bool
passes_rows s t (Insert es) = not (nat_lt (len (table_at s t)) (greatest Rows))
passes_rows s t (Update es filter) = false
passes_rows s t (Delete filter) = false

-- the limits: first that of the transaction's operations, of which so many may still come, then that of the table's
-- rows
abbrev pub within_limits : ℕ → TableState → Change → List Op → Result (List Op) Rule
within_limits room s change ops =
    if nat_lt room (length ops) then Err (limit Operations)
    else (if passes_rows s change.table change.action then Err (limit Rows) else Ok ops)

abbrev pub done_by : TableState → Change → Option TableDef → Result (List Op) Rule
done_by s change None = Err no_table
done_by s change (Some def) = done_in s change.table def change.action

-- the operations of a write, or the first rule that it breaks
abbrev pub effects_of : ℕ → Change → TableState → Result (List Op) Rule
effects_of room change s = then_do (within_limits room s change) (done_by s change (slice_get s.schema change.table.0))
