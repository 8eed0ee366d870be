-- The items of a select list, one by one.

use Rattle.std.specs.Prelude.{Option, Some, None}
use Rattle.sql_query.specs.declared.query.Aggregate.{Aggregate}
use Rattle.sql_query.specs.declared.query.SelectItem.{SelectItem}
use Rattle.sql_query.specs.declared.query.SelectItem.TheVariants as item
use Rattle.sql_query.specs.Trees.{ExpressionTree}

-- the expression, where the item is one
abbrev pub expression_in : SelectItem → Option ExpressionTree
expression_in (item.Expression expression) = Some expression
expression_in (item.Aggregate aggregate) = None

-- the aggregate, where the item is one
abbrev pub aggregate_in : SelectItem → Option Aggregate
aggregate_in (item.Expression expression) = None
aggregate_in (item.Aggregate aggregate) = Some aggregate
