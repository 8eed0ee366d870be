-- What the tokens at the front say: statements that write rows. (TimesTen SQL Reference, "INSERT", "UPDATE" and
-- "DELETE".)
use Rattle.std.specs.Prelude.{ℕ, List, [], ◌∷◌, length, drop, Option, Some, None, if◌then◌else◌}
use Rattle.sql_grammar.specs.sql_tokens.specs.declared.kind.Kind.TheVariants as k
use Rattle.sql_grammar.specs.sql_tokens.specs.Lexing.{Lexeme}
use Rattle.sql_query.specs.declared.write.Assignment.{Assignment}
use Rattle.sql_query.specs.declared.write.Delete.{Delete}
use Rattle.sql_query.specs.declared.write.Insert.{Insert}
use Rattle.sql_query.specs.declared.write.Update.{Update}
use Rattle.sql_query.specs.declared.write.Write.{Write}
use Rattle.sql_query.specs.declared.write.Write.TheVariants as writes
use Rattle.sql_query.specs.Trees.{ConditionTree, ExpressionTree}
use Rattle.sql_phrases.specs.Reading.{begins, first_text, name_from, name_of, identifiers_of, at_comma, chained, with_last, as_list}
use Rattle.sql_phrases.specs.Expressions.{expression_of, expressions_of}
use Rattle.sql_phrases.specs.Conditions.{filter_of}

abbrev pub as_columns : List (List ℕ) × List Lexeme → Option (List (List ℕ)) × List Lexeme
as_columns x = (Some x.0, drop 1 x.1)

-- [ "(" idents ")" ]
abbrev pub insert_columns_of : List Lexeme → Option (List (List ℕ)) × List Lexeme
insert_columns_of ls = if begins k.OpenParen ls then as_columns (identifiers_of (drop 1 ls)) else (None, ls)

abbrev pub inserted : List ℕ → Option (List (List ℕ)) → List ExpressionTree × List Lexeme → Insert × List Lexeme
inserted table columns x = (record { table = table; columns = columns; values = x.0 }, drop 1 x.1)

abbrev pub insert_columned : List ℕ → Option (List (List ℕ)) × List Lexeme → Insert × List Lexeme
insert_columned table x = inserted table x.0 (expressions_of (drop 2 x.1))

abbrev pub insert_named : List ℕ × List Lexeme → Insert × List Lexeme
insert_named x = insert_columned x.0 (insert_columns_of x.1)

-- INTO name [ "(" idents ")" ] VALUES "(" exprs ")"
unfoldable pub insert_of : List Lexeme → Insert × List Lexeme
insert_of ls = insert_named (name_of (drop 1 ls))

abbrev pub assigned : List ℕ → ExpressionTree × List Lexeme → Assignment × List Lexeme
assigned column x = (record { column = column; value = x.0 }, x.1)

-- ident "=" expr
abbrev pub assignment_of : List Lexeme → Assignment × List Lexeme
assignment_of ls = assigned (name_from (first_text ls)) (expression_of (drop 2 ls))

-- assignment { "," assignment }
abbrev pub assignments_of : List Lexeme → List Assignment × List Lexeme
assignments_of ls = chained at_comma with_last assignment_of (length ls) (as_list (assignment_of ls))

abbrev pub updated : List ℕ → List Assignment → Option ConditionTree × List Lexeme → Update × List Lexeme
updated table assignments x = (record { table = table; assignments = assignments; filter = x.0 }, x.1)

abbrev pub update_set : List ℕ → List Assignment × List Lexeme → Update × List Lexeme
update_set table x = updated table x.0 (filter_of x.1)

abbrev pub update_named : List ℕ × List Lexeme → Update × List Lexeme
update_named x = update_set x.0 (assignments_of (drop 1 x.1))

-- name SET assignments [ WHERE cond ]
unfoldable pub update_of : List Lexeme → Update × List Lexeme
update_of ls = update_named (name_of ls)

abbrev pub deleted : List ℕ → Option ConditionTree × List Lexeme → Delete × List Lexeme
deleted table x = (record { table = table; filter = x.0 }, x.1)

abbrev pub delete_named : List ℕ × List Lexeme → Delete × List Lexeme
delete_named x = deleted x.0 (filter_of x.1)

-- FROM name [ WHERE cond ]
unfoldable pub delete_of : List Lexeme → Delete × List Lexeme
delete_of ls = delete_named (name_of (drop 1 ls))

abbrev pub as_insert : Insert × List Lexeme → Write × List Lexeme
as_insert x = (writes.Insert x.0, x.1)

abbrev pub as_update : Update × List Lexeme → Write × List Lexeme
as_update x = (writes.Update x.0, x.1)

abbrev pub as_delete : Delete × List Lexeme → Write × List Lexeme
as_delete x = (writes.Delete x.0, x.1)

-- INSERT .. | UPDATE .. | DELETE ..
unfoldable pub write_of : List Lexeme → Write × List Lexeme
write_of ls =
    if begins k.Insert ls then as_insert (insert_of (drop 1 ls))
    else if begins k.Update ls then as_update (update_of (drop 1 ls))
    else as_delete (delete_of (drop 1 ls))
