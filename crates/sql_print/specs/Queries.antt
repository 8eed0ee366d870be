-- The words of queries and writes (this project's rule).
use Rattle.std.specs.Prelude.{ℕ, Bool, List, [], ◌∷◌, ◌++◌, codes, Option, Some, None, if◌then◌else◌}
use Rattle.sql_subset.specs.sql_query.specs.declared.query.Aggregate.{Aggregate}
use Rattle.sql_subset.specs.sql_query.specs.declared.query.Aggregate.TheVariants as aggregates
use Rattle.sql_subset.specs.sql_query.specs.declared.query.FromTable.{FromTable}
use Rattle.sql_subset.specs.sql_query.specs.declared.query.OrderItem.{OrderItem}
use Rattle.sql_subset.specs.sql_query.specs.declared.query.Query.{Query}
use Rattle.sql_subset.specs.sql_query.specs.declared.query.SelectItem.{SelectItem}
use Rattle.sql_subset.specs.sql_query.specs.declared.query.SelectItem.TheVariants as items
use Rattle.sql_subset.specs.sql_query.specs.declared.query.SelectList.{SelectList}
use Rattle.sql_subset.specs.sql_query.specs.declared.query.SelectList.TheVariants as lists
use Rattle.sql_subset.specs.sql_query.specs.declared.write.Assignment.{Assignment}
use Rattle.sql_subset.specs.sql_query.specs.declared.write.Write.{Write}
use Rattle.sql_subset.specs.sql_query.specs.declared.write.Write.TheVariants as writes
use Rattle.sql_words.specs.Words.{Word, enclosed, listed, name_words, column_name_words, identifier_words}
use Rattle.sql_words.specs.Trees.{expression_words, filter_words}

abbrev pub aggregate_words : Aggregate → List Word
aggregate_words aggregates.Rows = codes "COUNT" ∷ enclosed (codes "*" ∷ [])
aggregate_words (aggregates.Count e) = codes "COUNT" ∷ enclosed (expression_words e)
aggregate_words (aggregates.Sum e) = codes "SUM" ∷ enclosed (expression_words e)
aggregate_words (aggregates.Least e) = codes "MIN" ∷ enclosed (expression_words e)
aggregate_words (aggregates.Greatest e) = codes "MAX" ∷ enclosed (expression_words e)

abbrev pub item_words : SelectItem → List Word
item_words (items.Expression e) = expression_words e
item_words (items.Aggregate a) = aggregate_words a

abbrev pub selected_words : SelectList → List Word
selected_words lists.Everything = codes "*" ∷ []
selected_words (lists.Expressions es) = listed expression_words es
selected_words (lists.Aggregates aggs) = listed aggregate_words aggs
selected_words (lists.Mixed xs) = listed item_words xs

-- [ alias ]
abbrev pub alias_words : Option (List ℕ) → List Word
alias_words None = []
alias_words (Some name) = name ∷ []

-- name [ alias ]
abbrev pub source_words : FromTable → List Word
source_words source = name_words source.table ++ alias_words source.alias

-- [ GROUP BY columns ]
abbrev pub grouping_words : List (List ℕ) → List Word
grouping_words [] = []
grouping_words (name ∷ names) = codes "GROUP" ∷ codes "BY" ∷ listed column_name_words (name ∷ names)

abbrev pub direction_word : Bool → Word
direction_word descending = if descending then codes "DESC" else codes "ASC"

-- column ASC | column DESC
abbrev pub order_item_words : OrderItem → List Word
order_item_words item = column_name_words item.column ++ direction_word item.descending ∷ []

-- [ ORDER BY items ]
abbrev pub order_words : List OrderItem → List Word
order_words [] = []
order_words (item ∷ items) = codes "ORDER" ∷ codes "BY" ∷ listed order_item_words (item ∷ items)

-- list FROM tables [ WHERE .. ] [ GROUP BY .. ] [ ORDER BY .. ]
abbrev pub query_words : Query → List Word
query_words q =
    selected_words q.selected ++ codes "FROM" ∷ listed source_words q.tables ++ filter_words q.filter
    ++ grouping_words q.groups ++ order_words q.order

-- [ ( columns ) ]
abbrev pub insert_column_words : Option (List (List ℕ)) → List Word
insert_column_words None = []
insert_column_words (Some names) = enclosed (listed identifier_words names)

-- column = expression
abbrev pub assignment_words : Assignment → List Word
assignment_words x = x.column ∷ codes "=" ∷ expression_words x.value

-- what stands behind INSERT INTO, UPDATE or DELETE FROM
abbrev pub write_rest_words : Write → List Word
write_rest_words (writes.Insert x) =
    name_words x.table ++ insert_column_words x.columns ++ codes "VALUES" ∷ enclosed (listed expression_words x.values)
write_rest_words (writes.Update x) =
    name_words x.table ++ codes "SET" ∷ listed assignment_words x.assignments ++ filter_words x.filter
write_rest_words (writes.Delete x) = name_words x.table ++ filter_words x.filter

-- INSERT .. | UPDATE .. | DELETE ..
abbrev pub write_words : Write → List Word
write_words (writes.Insert x) = codes "INSERT" ∷ codes "INTO" ∷ write_rest_words (writes.Insert x)
write_words (writes.Update x) = codes "UPDATE" ∷ write_rest_words (writes.Update x)
write_words (writes.Delete x) = codes "DELETE" ∷ codes "FROM" ∷ write_rest_words (writes.Delete x)
