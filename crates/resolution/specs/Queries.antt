-- What the names of a query stand for. (TimesTen SQL Reference, "SELECT" and "Aggregate functions"; the codes and their
-- order are this project's rule.)

use Rattle.std.specs.Prelude.{ℕ, suc, List, [], ◌∷◌, Option, Some, None, Bool, true, false, ◌&&◌, ◌||◌, map, Result, Ok}
use Rattle.std.specs.List.{list_all}
use Rattle.std.specs.Result.{is_ok}
use Rattle.evaluator.specs.tier_base.specs.declared.code.Code.{Code}
use Rattle.evaluator.specs.tier_base.specs.declared.number.TableId.{TableId}
use Rattle.evaluator.specs.row_types.specs.declared.rule.Rule.{Rule}
use Rattle.evaluator.specs.expressions.specs.declared.typing.Family.{Family}
use Rattle.evaluator.specs.expressions.specs.declared.typing.Family.TheVariants.{Number}
use Rattle.evaluator.specs.expressions.specs.Types.{agrees}
use Rattle.sql_query.specs.declared.literal.Literal.TheVariants.{Null}
use Rattle.sql_query.specs.declared.query.Aggregate.{Aggregate as NamedAggregate}
use Rattle.sql_query.specs.declared.query.Aggregate.TheVariants as written
use Rattle.sql_query.specs.declared.query.OrderItem.{OrderItem}
use Rattle.sql_query.specs.declared.query.Query.{Query}
use Rattle.sql_query.specs.declared.query.SelectItem.{SelectItem}
use Rattle.sql_query.specs.declared.query.SelectItem.TheVariants as item
use Rattle.sql_query.specs.declared.query.SelectList.{SelectList}
use Rattle.sql_query.specs.declared.query.SelectList.TheVariants.{Everything, Expressions, Aggregates, Mixed}
use Rattle.sql_query.specs.Trees.{ExpressionTree, Constant}
use Rattle.evaluator.specs.table_defs.specs.declared.definition.TableDef.{TableDef}
use Rattle.evaluator.specs.declared.aggregate.Aggregate.{Aggregate}
use Rattle.evaluator.specs.declared.aggregate.Aggregate.TheVariants as total
use Rattle.evaluator.specs.declared.plan.Plan.{Plan}
use Rattle.evaluator.specs.Rules.{then_do}
use Rattle.resolution.specs.declared.resolved.ResolvedQuery.{ResolvedQuery}
use Rattle.resolution.specs.declared.resolved.ResolvedQuery.TheVariants.{Rows, Totals}
use Rattle.resolution.specs.Literals.{some_unheld, unheld_in_filter}
use Rattle.resolution.specs.Placing.{PlacedCondition, PlacedExpression, Column, expressions_seen, filter_seen, placed_filter, placed_list}
use Rattle.resolution.specs.Results.{both, judged, then_make}
use Rattle.resolution.specs.Scopes.{SeenColumn, placed_column, scope_of, tables_of}
use Rattle.resolution.specs.WrittenTypes.{is_sound_filter, written_families}

-- a query with places in place of names; totals where the select list is of aggregates, over the listed operands
pub record PlacedQuery : Type 0 where
  pub tables : List TableId
  pub totals : Option (List Aggregate)
  pub listed : List PlacedExpression
  pub filter : Option PlacedCondition
  pub order : List ℕ
  pub descending : List Bool

-- the evaluator's plan without its boxes
abbrev pub plan_seen : Option (List Aggregate) → Plan → PlacedQuery
plan_seen totals plan =
    record {
      tables = plan.tables;
      totals = totals;
      listed = expressions_seen plan.listed;
      filter =
          filter_seen plan.filter;
      order = plan.order;
      descending = plan.descending;
    }

-- a query for rows has no totals
abbrev pub query_seen : ResolvedQuery → PlacedQuery
query_seen (Rows plan) = plan_seen None plan
query_seen (Totals totals plan) = plan_seen (Some totals) plan

-- what an aggregate is taken of; COUNT(*) of no value
abbrev pub operand_of : NamedAggregate → ExpressionTree
operand_of written.Rows = Constant Null
operand_of (written.Count e) = e
operand_of (written.Sum e) = e
operand_of (written.Least e) = e
operand_of (written.Greatest e) = e

-- what an item of a mixed list is, or is taken of
abbrev pub tree_of_item : SelectItem → ExpressionTree
tree_of_item (item.Expression e) = e
tree_of_item (item.Aggregate aggregate) = operand_of aggregate

-- the evaluator's aggregate of the one that is written
abbrev pub total_of : NamedAggregate → Aggregate
total_of written.Rows = total.Rows
total_of (written.Count e) = total.Count
total_of (written.Sum e) = total.Sum
total_of (written.Least e) = total.Least
total_of (written.Greatest e) = total.Greatest

-- the columns by their places, from this place on
abbrev pub places_from : ℕ → List SeenColumn → List PlacedExpression
places_from place [] = []
places_from place (seen ∷ scope) = Column place ∷ places_from (suc place) scope

-- what is listed
abbrev pub placed_selected : List SeenColumn → SelectList → Result (List PlacedExpression) Rule
placed_selected scope Everything = Ok (places_from 0 scope)
placed_selected scope (Expressions es) = placed_list scope es
placed_selected scope (Aggregates aggregates) = placed_list scope (map operand_of aggregates)
placed_selected scope (Mixed items) = placed_list scope (map tree_of_item items)

-- the aggregates, where the select list is of aggregates
abbrev pub totals_of : SelectList → Option (List Aggregate)
totals_of Everything = None
totals_of (Expressions es) = None
totals_of (Aggregates aggregates) = Some (map total_of aggregates)
totals_of (Mixed items) = None

-- the place of a column in ORDER BY, or 103
unfoldable pub placed_item : List SeenColumn → OrderItem → Result ℕ Rule
placed_item scope ordered = placed_column scope ordered.column

-- the places of the columns in ORDER BY, one after the other
abbrev pub placed_order : List SeenColumn → List OrderItem → Result (List ℕ) Rule
placed_order scope [] = Ok []
placed_order scope (item ∷ items) =
    both (λ place places. place ∷ places) (placed_item scope item) (placed_order scope items)

-- the query of these parts
abbrev pub planned : List TableId → Query → List PlacedExpression → Option PlacedCondition → List ℕ → PlacedQuery
planned tables q listed filter order =
    record {
      tables = tables;
      totals = totals_of q.selected;
      listed = listed;
      filter = filter;
      order =
          order;
      descending = map (λ item. item.descending) q.order;
    }

-- the names of the list, then of WHERE, then of ORDER BY
abbrev pub placed_query : List TableId → List SeenColumn → Query → Result PlacedQuery Rule
placed_query tables scope q =
    then_do (λ listed. then_do (λ filter. then_make (planned tables q listed filter) (placed_order scope q.order))
    (placed_filter scope q.filter)) (placed_selected scope q.selected)

-- SUM is of numbers
abbrev pub suits_total : Aggregate → Result (Option Family) Code → Bool
suits_total total.Rows family = true
suits_total total.Count family = is_ok family
suits_total total.Sum family = agrees family (Ok (Some Number))
suits_total total.Least family = is_ok family
suits_total total.Greatest family = is_ok family

-- each aggregate suits its operand
abbrev pub suit_totals : List Aggregate → List (Result (Option Family) Code) → Bool
suit_totals (t ∷ ts) (family ∷ families) = suits_total t family && suit_totals ts families
suit_totals [] families = true
suit_totals (t ∷ ts) [] = true

-- the types of the select list, given those of its expressions or operands; expressions and aggregates stand together
-- in no list without GROUP BY
abbrev pub suits_families : SelectList → List (Result (Option Family) Code) → Bool
suits_families Everything families = true
suits_families (Expressions es) families = list_all is_ok families
suits_families (Aggregates aggregates) families = suit_totals (map total_of aggregates) families
suits_families (Mixed items) families = false

-- the expressions of the select list, or the operands of its aggregates
abbrev pub written_list : SelectList → List ExpressionTree
written_list Everything = []
written_list (Expressions es) = es
written_list (Aggregates aggregates) = map operand_of aggregates
written_list (Mixed items) = map tree_of_item items

-- the select list and the condition keep the rule of types
abbrev pub is_sound_query : List SeenColumn → Query → Bool
is_sound_query scope q =
    suits_families q.selected (written_families scope (written_list q.selected)) && is_sound_filter scope q.filter

-- no type holds some literal of the query
abbrev pub unheld_in_query : Query → Bool
unheld_in_query q = some_unheld (written_list q.selected) || unheld_in_filter q.filter

-- over the columns of its tables: 103, then 104, then 105
unfoldable pub resolved_in : List TableId → List SeenColumn → Query → Result PlacedQuery Rule
resolved_in tables scope q = then_do (judged (is_sound_query scope q) (unheld_in_query q)) (placed_query tables scope q)

-- 102, then 103, then 104, then 105
abbrev pub resolved_query : List TableDef → Query → Result PlacedQuery Rule
resolved_query schema q =
    then_do (λ tables. resolved_in tables (scope_of schema q.tables) q) (tables_of schema q.tables)
