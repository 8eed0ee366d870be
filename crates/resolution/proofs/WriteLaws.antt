-- A write of parts that were placed and judged.

use Rattle.std.proofs.Common.{◌≡◌, ℕ, List, [], Option, Bool, ◌&&◌, ◌||◌, map, ap, sym, ◌∙◌, subst}
use Rattle.std.specs.Prelude.{Result, Ok}
use Rattle.evaluator.specs.tier_base.specs.declared.code.Code.TheVariants.{KeyColumnSet}
use Rattle.evaluator.specs.row_types.specs.declared.column.Column.{Column}
use Rattle.evaluator.specs.row_types.specs.declared.rule.Rule.{Rule}
use Rattle.evaluator.specs.expressions.specs.Trees.{Cond, Expr}
use Rattle.evaluator.specs.expressions.specs.Types.{family_of}
use Rattle.sql_query.specs.declared.write.Assignment.{Assignment}
use Rattle.sql_query.specs.declared.write.Delete.{Delete as DeleteStatement}
use Rattle.sql_query.specs.declared.write.Insert.{Insert as InsertStatement}
use Rattle.sql_query.specs.declared.write.Update.{Update as UpdateStatement}
use Rattle.sql_query.specs.Trees.{ExpressionTree}
use Rattle.evaluator.specs.table_defs.specs.declared.definition.TableDef.{TableDef}
use Rattle.evaluator.specs.Rules.{unless}
use Rattle.resolution.specs.Assignments.{arranged, key_column_of, suit_columns}
use Rattle.resolution.specs.Literals.{some_unheld, unheld_in_filter}
use Rattle.resolution.specs.Placing.{expressions_seen, filter_seen, placed_filter, placed_list}
use Rattle.resolution.specs.Results.{judged}
use Rattle.resolution.specs.Scopes.{SeenColumn, families}
use Rattle.resolution.specs.WrittenTypes.{has_sound_filter, is_sound_filter, written_families}
use Rattle.resolution.specs.Writes.{Delete, Insert, PlacedAction, PlacedAssignments, Update, assignments_behind, insert_targets, named_delete, named_insert, named_update, no_assignments, nulls, unchanged, values_set}

-- an INSERT
pub inserted_as : (columns : List Column) (insert : InsertStatement) (list : List ExpressionTree) (targets : List ℕ) (values : List Expr) (unheld : Bool) (action : Result PlacedAction Rule) → list ≡ insert.values → insert_targets columns insert.columns ≡ Ok targets → placed_list [] list ≡ Ok (expressions_seen values) → map (λ e. family_of e []) values ≡ written_families [] list → unheld ≡ some_unheld list → action ≡ judged (suit_columns columns targets (map (λ e. family_of e []) values)) unheld (Insert (arranged (nulls columns) targets (expressions_seen values))) → named_insert columns insert ≡ Ok action
unfolding named_insert
inserted_as columns insert list targets values unheld action same of_targets of_values of_types of_literals is_judged =
    let placed : placed_list [] insert.values ≡ Ok (expressions_seen values) = subst (λ xs. placed_list [] xs ≡ Ok (expressions_seen values)) same of_values in
    let typed : map (λ e. family_of e []) values ≡ written_families [] insert.values = of_types ∙ ap (written_families []) same in
    let held : unheld ≡ some_unheld insert.values = of_literals ∙ ap some_unheld same in
    rw (of_targets, placed, ← typed, ← held) (ap Ok (sym is_judged))

-- an UPDATE
pub updated_as : (def : TableDef) (scope : List SeenColumn) (update : UpdateStatement) (columns : List Column) (list : List Assignment) (targets : List ℕ) (values : List Expr) (filter : Option Cond) (first unheld : Bool) (action : Result PlacedAction Rule) → columns ≡ def.columns → list ≡ update.assignments → assignments_behind columns scope no_assignments list ≡ Ok (record { targets = targets; values = expressions_seen values }) → map (λ e. family_of e (families scope)) values ≡ written_families scope (values_set list) → first ≡ some_unheld (values_set list) → placed_filter scope update.filter ≡ Ok (filter_seen filter) → has_sound_filter filter (families scope) ≡ is_sound_filter scope update.filter → unheld ≡ (first || unheld_in_filter update.filter) → action ≡ unless KeyColumnSet (key_column_of def targets) (judged (suit_columns def.columns targets (map (λ e. family_of e (families scope)) values) && has_sound_filter filter (families scope)) unheld (Update (arranged (unchanged 0 def.columns) targets (expressions_seen values)) (filter_seen filter))) → named_update def scope update ≡ Ok action
unfolding named_update
updated_as def scope update columns list targets values filter first unheld action of_def same of_set of_types of_literals of_filter of_condition of_all is_judged =
    let set : PlacedAssignments = record { targets = targets; values = expressions_seen values } in
    let placed : assignments_behind def.columns scope no_assignments update.assignments ≡ Ok set =
    subst (λ cs. assignments_behind cs scope no_assignments update.assignments ≡ Ok set) of_def
    (subst (λ xs. assignments_behind columns scope no_assignments xs ≡ Ok set) same of_set) in
    let typed : map (λ e. family_of e (families scope)) values ≡ written_families scope (values_set update.assignments) =
    of_types ∙ ap (λ xs. written_families scope (values_set xs)) same in
    let held : unheld ≡ (some_unheld (values_set update.assignments) || unheld_in_filter update.filter) =
    of_all ∙ ap (λ b. b || unheld_in_filter update.filter) (of_literals ∙ ap (λ xs. some_unheld (values_set xs)) same) in
    rw (placed, of_filter, ← typed, ← of_condition, ← held) (ap Ok (sym is_judged))

-- a DELETE
pub deleted_as : (scope : List SeenColumn) (delete : DeleteStatement) (filter : Option Cond) (unheld : Bool) (action : Result PlacedAction Rule) → placed_filter scope delete.filter ≡ Ok (filter_seen filter) → has_sound_filter filter (families scope) ≡ is_sound_filter scope delete.filter → unheld ≡ unheld_in_filter delete.filter → action ≡ judged (has_sound_filter filter (families scope)) unheld (Delete (filter_seen filter)) → named_delete scope delete ≡ Ok action
unfolding named_delete
deleted_as scope delete filter unheld action of_filter of_condition of_literals is_judged =
    rw (of_filter, ← of_condition, ← of_literals) (ap Ok (sym is_judged))
