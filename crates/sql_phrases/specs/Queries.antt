-- What the tokens at the front say: queries. (TimesTen SQL Reference, "SELECT".)
use Rattle.std.specs.Prelude.{ℕ, Bool, true, false, List, [], ◌∷◌, length, drop, Option, Some, None, if◌then◌else◌}
use Rattle.std.specs.List.{list_all, filter_map}
use Rattle.sql_grammar.specs.sql_tokens.specs.declared.kind.Kind.{Kind}
use Rattle.sql_grammar.specs.sql_tokens.specs.declared.kind.Kind.TheVariants as k
use Rattle.sql_grammar.specs.sql_tokens.specs.Kinds.{is_kind}
use Rattle.sql_grammar.specs.sql_tokens.specs.Lexing.{Lexeme}
use Rattle.sql_grammar.specs.declared.test.Test.TheVariants.{Name, Fold}
use Rattle.sql_grammar.specs.Tests.{passes}
use Rattle.sql_query.specs.declared.query.Aggregate.{Aggregate}
use Rattle.sql_query.specs.declared.query.Aggregate.TheVariants as aggregates
use Rattle.sql_query.specs.declared.query.FromTable.{FromTable}
use Rattle.sql_query.specs.declared.query.OrderItem.{OrderItem}
use Rattle.sql_query.specs.declared.query.Query.{Query}
use Rattle.sql_query.specs.declared.query.SelectItem.{SelectItem}
use Rattle.sql_query.specs.declared.query.SelectItem.TheVariants as items
use Rattle.sql_query.specs.declared.query.SelectList.{SelectList}
use Rattle.sql_query.specs.declared.query.SelectList.TheVariants as lists
use Rattle.sql_query.specs.Items.{aggregate_in, expression_in}
use Rattle.sql_query.specs.Trees.{ConditionTree, ExpressionTree}
use Rattle.sql_phrases.specs.Reading.{begins, first_kind, first_text, name_from, name_of, column_of, columns_of, at_comma, chained, with_last, as_list, past_one}
use Rattle.sql_phrases.specs.Expressions.{expression_of}
use Rattle.sql_phrases.specs.Conditions.{filter_of}

-- the aggregate of SUM, MIN or MAX
abbrev pub folded_by : Kind → ExpressionTree → Aggregate
folded_by w e =
    if is_kind w k.Sum then aggregates.Sum e else if is_kind w k.Min then aggregates.Least e else aggregates.Greatest e

abbrev pub folded : Kind → ExpressionTree × List Lexeme → SelectItem × List Lexeme
folded w x = (items.Aggregate (folded_by w x.0), drop 1 x.1)

abbrev pub counted : ExpressionTree × List Lexeme → SelectItem × List Lexeme
counted x = (items.Aggregate (aggregates.Count x.0), drop 1 x.1)

-- "(" ( "*" | expr ) ")" behind COUNT
abbrev pub count_of : List Lexeme → SelectItem × List Lexeme
count_of ls =
    if begins k.Star (drop 1 ls) then (
      items.Aggregate aggregates.Rows,
      drop 3 ls,
    ) else counted (expression_of (drop 1 ls))

abbrev pub as_item : ExpressionTree × List Lexeme → SelectItem × List Lexeme
as_item x = (items.Expression x.0, x.1)

-- COUNT .. | SUM, MIN or MAX "(" expr ")" | expr
abbrev pub item_of : List Lexeme → SelectItem × List Lexeme
item_of ls =
    if begins k.Count ls then count_of (drop 1 ls)
    else if passes Fold (first_kind ls) then folded (first_kind ls) (expression_of (drop 2 ls))
    else as_item (expression_of ls)

-- item { "," item }
abbrev pub items_of : List Lexeme → List SelectItem × List Lexeme
items_of ls = chained at_comma with_last item_of (length ls) (as_list (item_of ls))

abbrev pub is_expression : SelectItem → Bool
is_expression (items.Expression e) = true
is_expression (items.Aggregate a) = false

abbrev pub is_aggregate : SelectItem → Bool
is_aggregate (items.Expression e) = false
is_aggregate (items.Aggregate a) = true

-- the select list of these items: of expressions, of aggregates, or mixed
abbrev pub list_of : List SelectItem → SelectList
list_of xs =
    if list_all is_expression xs then lists.Expressions (filter_map expression_in xs)
    else if list_all is_aggregate xs then lists.Aggregates (filter_map aggregate_in xs)
    else lists.Mixed xs

abbrev pub as_select_list : List SelectItem × List Lexeme → SelectList × List Lexeme
as_select_list x = (list_of x.0, x.1)

-- "*" | items
unfoldable pub selected_of : List Lexeme → SelectList × List Lexeme
selected_of ls = if begins k.Star ls then (lists.Everything, drop 1 ls) else as_select_list (items_of ls)

-- [ ident ] behind a table's name
abbrev pub aliased : List ℕ × List Lexeme → FromTable × List Lexeme
aliased x =
    if passes Name (first_kind x.1) then (record { table = x.0; alias = Some (name_from (first_text x.1)) }, drop 1 x.1)
    else (record { table = x.0; alias = None }, x.1)

-- name [ ident ]
abbrev pub source_of : List Lexeme → FromTable × List Lexeme
source_of ls = aliased (name_of ls)

-- source { "," source }
abbrev pub sources_of : List Lexeme → List FromTable × List Lexeme
sources_of ls = chained at_comma with_last source_of (length ls) (as_list (source_of ls))

-- [ GROUP BY column { "," column } ]
unfoldable pub groups_of : List Lexeme → List (List ℕ) × List Lexeme
groups_of ls = if begins k.Group ls then columns_of (drop 2 ls) else ([], ls)

-- [ ASC | DESC ] behind a column
abbrev pub ordered : List ℕ × List Lexeme → OrderItem × List Lexeme
ordered x =
    if begins k.Asc x.1 then (record { column = x.0; descending = false }, drop 1 x.1)
    else if begins k.Desc x.1 then (record { column = x.0; descending = true }, drop 1 x.1)
    else (record { column = x.0; descending = false }, x.1)

-- column [ ASC | DESC ]
abbrev pub order_item_of : List Lexeme → OrderItem × List Lexeme
order_item_of ls = ordered (column_of ls)

-- order item { "," order item }
abbrev pub order_items_of : List Lexeme → List OrderItem × List Lexeme
order_items_of ls = chained at_comma with_last order_item_of (length ls) (as_list (order_item_of ls))

-- [ ORDER BY order item { "," order item } ]
unfoldable pub order_of : List Lexeme → List OrderItem × List Lexeme
order_of ls = if begins k.Order ls then order_items_of (drop 2 ls) else ([], ls)

abbrev pub query_ordered : SelectList → List FromTable → Option ConditionTree → List (List ℕ)
    → List OrderItem × List Lexeme → Query × List Lexeme
query_ordered selected tables filter groups x =
    (record { selected = selected; tables = tables; filter = filter; groups = groups; order = x.0 }, x.1)

abbrev pub query_grouped : SelectList → List FromTable → Option ConditionTree → List (List ℕ) × List Lexeme
    → Query × List Lexeme
query_grouped selected tables filter x = query_ordered selected tables filter x.0 (order_of x.1)

abbrev pub query_filtered : SelectList → List FromTable → Option ConditionTree × List Lexeme → Query × List Lexeme
query_filtered selected tables x = query_grouped selected tables x.0 (groups_of x.1)

abbrev pub query_from : SelectList → List FromTable × List Lexeme → Query × List Lexeme
query_from selected x = query_filtered selected x.0 (filter_of x.1)

abbrev pub query_listed : SelectList × List Lexeme → Query × List Lexeme
query_listed x = query_from x.0 (sources_of (drop 1 x.1))

-- list FROM sources [ WHERE cond ] [ GROUP BY .. ] [ ORDER BY .. ]
unfoldable pub query_of : List Lexeme → Query × List Lexeme
query_of ls = query_listed (selected_of ls)
