-- What the names of a write stand for. (TimesTen SQL Reference, "INSERT", "UPDATE", "DELETE"; the codes and their order
-- are this project's rule.)

use Rattle.std.specs.Prelude.{ℕ, suc, List, [], ◌∷◌, ◌++◌, Option, Some, None, ◌&&◌, ◌||◌, map, Result, Ok, Err, slice_get}
use Rattle.evaluator.specs.tier_base.specs.declared.code.Code.TheVariants as code
use Rattle.evaluator.specs.tier_base.specs.declared.number.TableId.{TableId}
use Rattle.evaluator.specs.row_types.specs.declared.column.Column.{Column}
use Rattle.evaluator.specs.row_types.specs.declared.rule.Rule.{Rule}
use Rattle.evaluator.specs.row_types.specs.declared.value.Value.TheVariants.{Null}
use Rattle.sql_query.specs.declared.write.Assignment.{Assignment}
use Rattle.sql_query.specs.declared.write.Delete.{Delete as DeleteStatement}
use Rattle.sql_query.specs.declared.write.Insert.{Insert as InsertStatement}
use Rattle.sql_query.specs.declared.write.Update.{Update as UpdateStatement}
use Rattle.sql_query.specs.declared.write.Write.{Write}
use Rattle.sql_query.specs.declared.write.Write.TheVariants as write
use Rattle.sql_query.specs.Trees.{ExpressionTree}
use Rattle.evaluator.specs.table_defs.specs.declared.definition.TableDef.{TableDef}
use Rattle.evaluator.specs.table_defs.specs.Names.{place_of_table}
use Rattle.evaluator.specs.declared.change.Action.{Action}
use Rattle.evaluator.specs.declared.change.Action.TheVariants as action
use Rattle.evaluator.specs.declared.change.Change.{Change}
use Rattle.evaluator.specs.Rules.{about, then_do, unless}
use Rattle.resolution.specs.declared.write.Assignments.{Assignments}
use Rattle.resolution.specs.Assignments.{arranged, key_column_of, suit_columns, target_of, targets_behind}
use Rattle.resolution.specs.Literals.{some_unheld, unheld_in_filter}
use Rattle.resolution.specs.Placing.{PlacedCondition, PlacedExpression, expressions_seen, filter_seen, placed_expression, placed_filter, placed_list}
use Rattle.resolution.specs.Placing as placed
use Rattle.resolution.specs.Results.{both, judged, then_make}
use Rattle.resolution.specs.Scopes.{SeenColumn, columns_seen}
use Rattle.resolution.specs.WrittenTypes.{is_sound_filter, written_families}

-- a write with places in place of names
pub data PlacedAction : Type 0 where
  Insert : List PlacedExpression → PlacedAction
  Update : List PlacedExpression → Option PlacedCondition → PlacedAction
  Delete : Option PlacedCondition → PlacedAction

-- and its table
pub record PlacedChange : Type 0 where
  pub table : TableId
  pub action : PlacedAction

-- what the evaluator's write is, without its boxes
abbrev pub action_seen : Action → PlacedAction
action_seen (action.Insert es) = Insert (expressions_seen es)
action_seen (action.Update es filter) = Update (expressions_seen es) (filter_seen filter)
action_seen (action.Delete filter) = Delete (filter_seen filter)

-- the same with its table
abbrev pub change_seen : Change → PlacedChange
change_seen change = record { table = change.table; action = action_seen change.action }

-- the same of several
abbrev pub changes_seen : List Change → List PlacedChange
changes_seen changes = map change_seen changes

-- the places of all columns
abbrev pub all_places : ℕ → List Column → List ℕ
all_places place [] = []
all_places place (column ∷ columns) = place ∷ all_places (suc place) columns

-- the columns that get the values of an INSERT
abbrev pub insert_targets : List Column → Option (List (List ℕ)) → Result (List ℕ) Rule
insert_targets columns None = Ok (all_places 0 columns)
insert_targets columns (Some names) = targets_behind columns [] names

-- a row of NULLs
abbrev pub nulls : List Column → List PlacedExpression
nulls columns = map (λ column. placed.Literal Null) columns

-- the row as it was
abbrev pub unchanged : ℕ → List Column → List PlacedExpression
unchanged place columns = map placed.Column (all_places place columns)

-- An INSERT whose names are found: those of the column list, then of VALUES, which has no columns. Then it is judged:
-- 104, also of another number of values, and 105. A column that isn't named is NULL.
unfoldable pub named_insert : List Column → InsertStatement → Result (Result PlacedAction Rule) Rule
named_insert columns insert =
    then_do (λ targets. then_make (λ values. judged (suit_columns columns targets (written_families [] insert.values))
    (some_unheld insert.values) (Insert (arranged (nulls columns) targets values)))
    (placed_list [] insert.values)) (insert_targets columns insert.columns)

-- what SET sets, with what
pub record PlacedAssignments : Type 0 where
  pub targets : List ℕ
  pub values : List PlacedExpression

-- one more column that is set
abbrev pub with_assignment : PlacedAssignments → ℕ → PlacedExpression → PlacedAssignments
with_assignment before place value =
    record { targets = before.targets ++ place ∷ []; values = before.values ++ value ∷ [] }

-- the same without boxes
abbrev pub assignments_seen : Assignments → PlacedAssignments
assignments_seen a = record { targets = a.targets.items; values = expressions_seen a.values.items }

-- each column with its expression, behind those before
abbrev pub assignments_behind : List Column → List SeenColumn → PlacedAssignments → List Assignment
    → Result PlacedAssignments Rule
assignments_behind columns scope before [] = Ok before
assignments_behind columns scope before (a ∷ assignments) =
    then_do (λ place. then_do (λ value. assignments_behind columns scope
    (with_assignment before place value) assignments)
    (placed_expression scope a.value)) (target_of columns before.targets a.column)

-- nothing is set yet
abbrev pub no_assignments : PlacedAssignments
no_assignments = record { targets = []; values = [] }

-- the expressions behind `=`
abbrev pub values_set : List Assignment → List ExpressionTree
values_set assignments = map (λ a. a.value) assignments

-- An UPDATE whose names are found: each SET column with its expression, then those of WHERE. Then it is judged: 118 of
-- the first column of the primary key, then 104 and 105. A column that isn't set stays.
unfoldable pub named_update : TableDef → List SeenColumn → UpdateStatement → Result (Result PlacedAction Rule) Rule
named_update def scope update =
    then_do (λ set. then_make (λ filter. unless code.KeyColumnSet (key_column_of def set.targets)
    (judged (suit_columns def.columns set.targets (written_families scope (values_set update.assignments))
    && is_sound_filter scope update.filter)
    (some_unheld (values_set update.assignments) || unheld_in_filter update.filter)
    (Update (arranged (unchanged 0 def.columns) set.targets set.values) filter)))
    (placed_filter scope update.filter)) (assignments_behind def.columns scope no_assignments update.assignments)

-- A DELETE whose names are found. Then it is judged: 104 and 105.
unfoldable pub named_delete : List SeenColumn → DeleteStatement → Result (Result PlacedAction Rule) Rule
named_delete scope delete =
    then_make (λ filter. judged (is_sound_filter scope delete.filter) (unheld_in_filter delete.filter) (Delete filter))
    (placed_filter scope delete.filter)

-- the table that is written
abbrev pub table_of : Write → List ℕ
table_of (write.Insert insert) = insert.table
table_of (write.Update update) = update.table
table_of (write.Delete delete) = delete.table

-- the write on its table, by its kind
unfoldable pub named_action : TableDef → Write → Result (Result PlacedAction Rule) Rule
named_action def (write.Insert insert) = named_insert def.columns insert
named_action def (write.Update update) = named_update def (columns_seen update.table def.columns) update
named_action def (write.Delete delete) = named_delete (columns_seen delete.table def.columns) delete

-- what is done, on this table
abbrev pub change_of : TableId → PlacedAction → PlacedChange
change_of t action = record { table = t; action = action }

-- the write over the definition of its table, or 102
abbrev pub named_on : Write → TableId → Option TableDef → Result (Result PlacedChange Rule) Rule
named_on w t None = Err (about code.UnknownTable (table_of w))
named_on w t (Some def) = then_make (λ action. then_make (change_of t) action) (named_action def w)

-- the write on the table of this number, or 102
abbrev pub named_at : List TableDef → Write → Option TableId → Result (Result PlacedChange Rule) Rule
named_at schema w None = Err (about code.UnknownTable (table_of w))
named_at schema w (Some t) = named_on w t (slice_get schema t.0)

-- The write with its names found: 102, then 103. What is found is judged apart: 118, then 104, then 105, or the write
-- with places in place of names.
unfoldable pub named_write : List TableDef → Write → Result (Result PlacedChange Rule) Rule
named_write schema w = named_at schema w (place_of_table schema (table_of w))

-- the names, then what is judged
abbrev pub resolved_write : List TableDef → Write → Result PlacedChange Rule
resolved_write schema w = then_do (λ change. change) (named_write schema w)

-- several writes with their names found, one write after the other
abbrev pub named_writes : List TableDef → List Write → Result (List (Result PlacedChange Rule)) Rule
named_writes schema [] = Ok []
named_writes schema (w ∷ ws) = both (λ change changes. change ∷ changes) (named_write schema w) (named_writes schema ws)

-- all are sound, or what the first that isn't breaks
abbrev pub all_sound : {A : Type 0} → List (Result A Rule) → Result (List A) Rule
all_sound [] = Ok []
all_sound (r ∷ rs) = both (λ x xs. x ∷ xs) r (all_sound rs)

-- one more behind those that are sound
abbrev pub sound_with : {A : Type 0} → Result (List A) Rule → Result A Rule → Result (List A) Rule
sound_with sound r = then_do (λ xs. then_make (λ x. xs ++ x ∷ []) r) sound

-- the names of all writes, then what is judged of each
abbrev pub resolved_writes : List TableDef → List Write → Result (List PlacedChange) Rule
resolved_writes schema ws = then_do all_sound (named_writes schema ws)
