-- What is read is no longer there: no reader gives more tokens than it had.
use Rattle.std.proofs.Common.{ℕ, zero, suc, ◌≤◌, Bool, true, false, cond, List, length, drop, Option, None, refl, arith, length-drop}
use Rattle.sql_grammar.specs.sql_tokens.specs.declared.kind.Kind.{Kind}
use Rattle.sql_grammar.specs.sql_tokens.specs.declared.kind.Kind.TheVariants as k
use Rattle.sql_grammar.specs.sql_tokens.specs.Lexing.{Lexeme}
use Rattle.sql_grammar.specs.declared.test.Test.TheVariants.{Name, Fold, Compare}
use Rattle.sql_grammar.specs.Tests.{passes}
use Rattle.sql_query.specs.row_types.specs.declared.declaration.TypeDeclaration.{TypeDeclaration}
use Rattle.sql_query.specs.Trees.{ExpressionTree, ConditionTree}
use Rattle.sql_phrases.specs.Reading.{begins, first_kind, at_comma, with_last, as_list, identifier_of, name_of, past_column, column_of, numeral_of, as_number, literal_of, identifiers_of, literals_of, columns_of, past_one}
use Rattle.sql_phrases.specs.Expressions.{as_constant, as_column, factor_of, at_star, multiplied, term_of, at_sign, added, expression_of, expressions_of}
use Rattle.sql_phrases.specs.Conditions.{at_and, at_or, both, either, missing, within, between_low, among, compared, comparator_of, tested, test_of, predicate_of, conjunction_by, condition_by, condition_of, filter_of, as_filter, negated}
use Rattle.sql_phrases.specs.Queries.{item_of, count_of, counted, folded, as_item, source_of, aliased, order_item_of, ordered}
use Rattle.sql_phrases.specs.Writes.{insert_columns_of, as_columns, insert_of, assignment_of, assignments_of, update_of, delete_of, as_insert, as_update, as_delete, write_of}
use Rattle.sql_phrases.specs.Tables.{past_word, past_two, text_type, number_type, time_type, type_of, column_typed, foreign_referred, foreign_key_of, closes, as_key, as_foreign_key, element_of}
use Rattle.sql_phrases.specs.Tables as tables
use Rattle.sql_phrases.proofs.Chains.{chain_within}

pub drop_shrinks : (n : ℕ) (ls : List Lexeme) → length (drop n ls) ≤ length ls
drop_shrinks n ls = omega (arith, length-drop n ls)

pub choice_shrinks : {A : Type 0} (b : Bool) (x y : A × List Lexeme) (ls : List Lexeme) → length x.1 ≤ length ls → length y.1 ≤ length ls → length (cond b x y).1 ≤ length ls
choice_shrinks true x y ls h l = h
choice_shrinks false x y ls h l = l

-- what is read behind n tokens of the list is no longer than the list
pub behind_shrinks : (m : ℕ) (n : ℕ) (ls : List Lexeme) → m ≤ length (drop n ls) → m ≤ length ls
behind_shrinks m n ls h = let d = drop_shrinks n ls in omega (arith, h, d)

pub identifier_shrinks : (ls : List Lexeme) → length (identifier_of ls).1 ≤ length ls
identifier_shrinks ls = drop_shrinks 1 ls

pub name_shrinks : (ls : List Lexeme) → length (name_of ls).1 ≤ length ls
name_shrinks ls = choice_shrinks (begins k.Dot (drop 1 ls)) _ _ ls (drop_shrinks 3 ls) (drop_shrinks 1 ls)

pub column_name_shrinks : (ls : List Lexeme) → length (column_of ls).1 ≤ length ls
column_name_shrinks ls =
    let n = name_shrinks ls in
    let d = drop_shrinks 2 (name_of ls).1 in
    choice_shrinks (begins k.Dot (name_of ls).1) _ (name_of ls) ls (omega (arith, n, d)) n

numeral_shrinks : (ls : List Lexeme) → length (numeral_of ls).1 ≤ length ls
numeral_shrinks ls = choice_shrinks (begins k.Minus ls) _ _ ls (drop_shrinks 2 ls) (drop_shrinks 1 ls)

pub literal_shrinks : (ls : List Lexeme) → length (literal_of ls).1 ≤ length ls
literal_shrinks ls =
    choice_shrinks (begins k.Text ls) _ _ ls (drop_shrinks 1 ls)
    (choice_shrinks (begins k.Null ls) _ _ ls (drop_shrinks 1 ls)
    (choice_shrinks (begins k.Timestamp ls) _ (as_number (numeral_of ls)) ls (drop_shrinks 2 ls) (numeral_shrinks ls)))

pub identifiers_shrink : (ls : List Lexeme) → length (identifiers_of ls).1 ≤ length ls
identifiers_shrink ls = chain_within _ _ at_comma with_last identifier_of (as_list (identifier_of ls)) identifier_shrinks refl (length ls) (as_list (identifier_of ls)) ls (identifier_shrinks ls)

pub literals_shrink : (ls : List Lexeme) → length (literals_of ls).1 ≤ length ls
literals_shrink ls = chain_within _ _ at_comma with_last literal_of (as_list (literal_of ls)) literal_shrinks refl (length ls) (as_list (literal_of ls)) ls (literal_shrinks ls)

pub factor_shrinks : (ls : List Lexeme) → length (factor_of ls).1 ≤ length ls
factor_shrinks ls = choice_shrinks (passes Name (first_kind ls)) (as_column (column_of ls)) (as_constant (literal_of ls)) ls (column_name_shrinks ls) (literal_shrinks ls)

pub term_shrinks : (ls : List Lexeme) → length (term_of ls).1 ≤ length ls
term_shrinks ls = chain_within _ _ at_star multiplied factor_of (factor_of ls) factor_shrinks refl (length ls) (factor_of ls) ls (factor_shrinks ls)

pub expression_shrinks : (ls : List Lexeme) → length (expression_of ls).1 ≤ length ls
unfolding expression_of
expression_shrinks ls = chain_within _ _ at_sign added term_of (term_of ls) term_shrinks refl (length ls) (term_of ls) ls (term_shrinks ls)

pub expressions_shrink : (ls : List Lexeme) → length (expressions_of ls).1 ≤ length ls
unfolding expressions_of
expressions_shrink ls = chain_within _ _ at_comma with_last expression_of (as_list (expression_of ls)) expression_shrinks refl (length ls) (as_list (expression_of ls)) ls (expression_shrinks ls)

missing_shrinks : (e : ExpressionTree) (ls : List Lexeme) → length (missing e ls).1 ≤ length ls
missing_shrinks e ls = choice_shrinks (begins k.Not (drop 1 ls)) _ _ ls (drop_shrinks 3 ls) (drop_shrinks 2 ls)

within_shrinks : (b : Bool) (e : ExpressionTree) (ls : List Lexeme) → length (within b e ls).1 ≤ length ls
unfolding within
within_shrinks b e ls =
    let low : ExpressionTree × List Lexeme = expression_of (drop 1 ls) in
    let a = expression_shrinks (drop 1 low.1) in
    let c = drop_shrinks 1 low.1 in
    let d = expression_shrinks (drop 1 ls) in
    let g = drop_shrinks 1 ls in
    let h = drop_shrinks 1 (expressions_of (drop 2 ls)).1 in
    let i = expressions_shrink (drop 2 ls) in
    let j = drop_shrinks 2 ls in
    choice_shrinks (begins k.Between ls) (between_low b e low) (among b e (expressions_of (drop 2 ls))) ls (omega (arith, a, c, d, g)) (omega (arith, h, i, j))

tested_shrinks : (x : ExpressionTree × List Lexeme) → length (tested x).1 ≤ length x.1
unfolding tested
tested_shrinks x =
    let a = expression_shrinks (drop 1 x.1) in
    let b = drop_shrinks 1 x.1 in
    let c = within_shrinks true x.0 (drop 1 x.1) in
    choice_shrinks (passes Compare (first_kind x.1)) (compared (comparator_of (first_kind x.1)) x.0 (expression_of (drop 1 x.1))) _ x.1 (omega (arith, a, b))
    (choice_shrinks (begins k.Is x.1) (missing x.0 x.1) _ x.1 (missing_shrinks x.0 x.1)
    (choice_shrinks (begins k.Not x.1) (within true x.0 (drop 1 x.1)) (within false x.0 x.1) x.1 (omega (arith, b, c)) (within_shrinks false x.0 x.1)))

test_shrinks : (ls : List Lexeme) → length (test_of ls).1 ≤ length ls
unfolding test_of
test_shrinks ls = let a = tested_shrinks (expression_of ls) in let b = expression_shrinks ls in omega (arith, a, b)

abbrev Shrinks : (List Lexeme → ConditionTree × List Lexeme) → Type 0
Shrinks p = (ls : List Lexeme) → length (p ls).1 ≤ length ls

conjunction_by_shrinks : (p : List Lexeme → ConditionTree × List Lexeme) → Shrinks p → Shrinks (conjunction_by p)
unfolding conjunction_by
conjunction_by_shrinks p h ls = chain_within _ _ at_and both p (p ls) h refl (length ls) (p ls) ls (h ls)

condition_by_shrinks : (p : List Lexeme → ConditionTree × List Lexeme) → Shrinks p → Shrinks (condition_by p)
unfolding condition_by
condition_by_shrinks p h ls =
    chain_within _ _ at_or either (conjunction_by p) (conjunction_by p ls) (conjunction_by_shrinks p h) refl (length ls) (conjunction_by p ls) ls (conjunction_by_shrinks p h ls)

pub predicate_shrinks : (n : ℕ) (ls : List Lexeme) → length (predicate_of n ls).1 ≤ length ls
unfolding predicate_of
predicate_shrinks zero ls = test_shrinks ls
predicate_shrinks (suc n) ls =
    let a = condition_by_shrinks (predicate_of n) (predicate_shrinks n) (drop 1 ls) in
    let b = drop_shrinks 1 ls in
    let c = drop_shrinks 1 (condition_by (predicate_of n) (drop 1 ls)).1 in
    let d = predicate_shrinks n (drop 1 ls) in
    choice_shrinks (begins k.OpenParen ls) (past_one (condition_by (predicate_of n) (drop 1 ls))) _ ls (omega (arith, a, b, c))
    (choice_shrinks (begins k.Not ls) (negated (predicate_of n (drop 1 ls))) (test_of ls) ls (omega (arith, b, d)) (test_shrinks ls))

pub conjunction_shrinks : (n : ℕ) (ls : List Lexeme) → length (conjunction_by (predicate_of n) ls).1 ≤ length ls
conjunction_shrinks n = conjunction_by_shrinks (predicate_of n) (predicate_shrinks n)

pub condition_shrinks : (ls : List Lexeme) → length (condition_of ls).1 ≤ length ls
unfolding condition_of
condition_shrinks = condition_by_shrinks (predicate_of 32) (predicate_shrinks 32)

pub filter_shrinks : (ls : List Lexeme) → length (filter_of ls).1 ≤ length ls
unfolding filter_of
filter_shrinks ls =
    let a = condition_shrinks (drop 1 ls) in
    let b = drop_shrinks 1 ls in
    choice_shrinks (begins k.Where ls) (as_filter (condition_of (drop 1 ls))) (None, ls) ls (omega (arith, a, b)) (omega arith)

count_shrinks : (ls : List Lexeme) → length (count_of ls).1 ≤ length ls
count_shrinks ls =
    let a = expression_shrinks (drop 1 ls) in
    let b = drop_shrinks 1 ls in
    let c = drop_shrinks 1 (expression_of (drop 1 ls)).1 in
    choice_shrinks (begins k.Star (drop 1 ls)) _ (counted (expression_of (drop 1 ls))) ls (drop_shrinks 3 ls) (omega (arith, a, b, c))

pub item_shrinks : (ls : List Lexeme) → length (item_of ls).1 ≤ length ls
item_shrinks ls =
    let a = count_shrinks (drop 1 ls) in
    let b = drop_shrinks 1 ls in
    let c = expression_shrinks (drop 2 ls) in
    let d = drop_shrinks 2 ls in
    let e = drop_shrinks 1 (expression_of (drop 2 ls)).1 in
    choice_shrinks (begins k.Count ls) (count_of (drop 1 ls)) _ ls (omega (arith, a, b))
    (choice_shrinks (passes Fold (first_kind ls)) (folded (first_kind ls) (expression_of (drop 2 ls))) (as_item (expression_of ls)) ls (omega (arith, c, d, e)) (expression_shrinks ls))

pub source_shrinks : (ls : List Lexeme) → length (source_of ls).1 ≤ length ls
source_shrinks ls =
    let n = name_shrinks ls in
    let d = drop_shrinks 1 (name_of ls).1 in
    choice_shrinks (passes Name (first_kind (name_of ls).1)) _ _ ls (omega (arith, n, d)) n

pub order_item_shrinks : (ls : List Lexeme) → length (order_item_of ls).1 ≤ length ls
order_item_shrinks ls =
    let n = column_name_shrinks ls in
    let d = drop_shrinks 1 (column_of ls).1 in
    let m : length (drop 1 (column_of ls).1) ≤ length ls = omega (arith, n, d) in
    choice_shrinks (begins k.Asc (column_of ls).1) _ _ ls m (choice_shrinks (begins k.Desc (column_of ls).1) _ _ ls m n)

pub assignment_shrinks : (ls : List Lexeme) → length (assignment_of ls).1 ≤ length ls
assignment_shrinks ls = let a = expression_shrinks (drop 2 ls) in let b = drop_shrinks 2 ls in omega (arith, a, b)

assignments_shrink : (ls : List Lexeme) → length (assignments_of ls).1 ≤ length ls
assignments_shrink ls = chain_within _ _ at_comma with_last assignment_of (as_list (assignment_of ls)) assignment_shrinks refl (length ls) (as_list (assignment_of ls)) ls (assignment_shrinks ls)

insert_columns_shrink : (ls : List Lexeme) → length (insert_columns_of ls).1 ≤ length ls
insert_columns_shrink ls =
    let a = identifiers_shrink (drop 1 ls) in
    let b = drop_shrinks 1 ls in
    let c = drop_shrinks 1 (identifiers_of (drop 1 ls)).1 in
    choice_shrinks (begins k.OpenParen ls) (as_columns (identifiers_of (drop 1 ls))) (None, ls) ls (omega (arith, a, b, c)) (omega arith)

insert_shrinks : (ls : List Lexeme) → length (insert_of ls).1 ≤ length ls
unfolding insert_of
insert_shrinks ls =
    let n : List ℕ × List Lexeme = name_of (drop 1 ls) in
    let m : Option (List (List ℕ)) × List Lexeme = insert_columns_of n.1 in
    let a = drop_shrinks 1 (expressions_of (drop 2 m.1)).1 in
    let b = expressions_shrink (drop 2 m.1) in
    let c = drop_shrinks 2 m.1 in
    let d = insert_columns_shrink n.1 in
    let e = name_shrinks (drop 1 ls) in
    let f = drop_shrinks 1 ls in
    omega (arith, a, b, c, d, e, f)

update_shrinks : (ls : List Lexeme) → length (update_of ls).1 ≤ length ls
unfolding update_of
update_shrinks ls =
    let n : List ℕ × List Lexeme = name_of ls in
    let a = filter_shrinks (assignments_of (drop 1 n.1)).1 in
    let b = assignments_shrink (drop 1 n.1) in
    let c = drop_shrinks 1 n.1 in
    let d = name_shrinks ls in
    omega (arith, a, b, c, d)

delete_shrinks : (ls : List Lexeme) → length (delete_of ls).1 ≤ length ls
unfolding delete_of
delete_shrinks ls =
    let a = filter_shrinks (name_of (drop 1 ls)).1 in
    let b = name_shrinks (drop 1 ls) in
    let c = drop_shrinks 1 ls in
    omega (arith, a, b, c)

pub write_shrinks : (ls : List Lexeme) → length (write_of ls).1 ≤ length ls
unfolding write_of
write_shrinks ls =
    let e = drop_shrinks 1 ls in
    let a = insert_shrinks (drop 1 ls) in
    let b = update_shrinks (drop 1 ls) in
    let c = delete_shrinks (drop 1 ls) in
    choice_shrinks (begins k.Insert ls) (as_insert (insert_of (drop 1 ls))) _ ls (omega (arith, a, e))
    (choice_shrinks (begins k.Update ls) (as_update (update_of (drop 1 ls))) (as_delete (delete_of (drop 1 ls))) ls (omega (arith, b, e)) (omega (arith, c, e)))

past_word_shrinks : (w : Kind) (ls : List Lexeme) → length (past_word w ls) ≤ length ls
past_word_shrinks w ls = elim (begins w ls) as (λ b. length (cond b (drop 1 ls) ls) ≤ length ls) [ true ↦ drop_shrinks 1 ls | false ↦ omega arith ]

past_two_shrinks : (w : Kind) (ls : List Lexeme) → length (past_two w ls) ≤ length ls
past_two_shrinks w ls = elim (begins w ls) as (λ b. length (cond b (drop 2 ls) ls) ≤ length ls) [ true ↦ drop_shrinks 2 ls | false ↦ omega arith ]

text_type_shrinks : (ls : List Lexeme) → length (text_type ls).1 ≤ length ls
text_type_shrinks ls =
    let a = drop_shrinks 1 (past_word k.Byte (drop 2 ls)) in
    let b = past_word_shrinks k.Byte (drop 2 ls) in
    let c = drop_shrinks 2 ls in
    omega (arith, a, b, c)

number_type_shrinks : (ls : List Lexeme) → length (number_type ls).1 ≤ length ls
number_type_shrinks ls = choice_shrinks (begins k.Comma (drop 2 ls)) _ _ ls (drop_shrinks 5 ls) (drop_shrinks 3 ls)

time_type_shrinks : (ls : List Lexeme) → length (time_type ls).1 ≤ length ls
time_type_shrinks ls = choice_shrinks (begins k.OpenParen ls) _ _ ls (drop_shrinks 3 ls) (omega arith)

type_shrinks : (ls : List Lexeme) → length (type_of ls).1 ≤ length ls
unfolding type_of
type_shrinks ls =
    let a = drop_shrinks 1 ls in
    let b = text_type_shrinks (drop 1 ls) in
    let c = number_type_shrinks (drop 1 ls) in
    let d = time_type_shrinks (drop 1 ls) in
    choice_shrinks (begins k.TtInteger ls) _ _ ls a
    (choice_shrinks (begins k.TtBigint ls) _ _ ls a
    (choice_shrinks (begins k.Varchar2 ls) (text_type (drop 1 ls)) _ ls (omega (arith, a, b))
    (choice_shrinks (begins k.Number ls) (number_type (drop 1 ls)) (time_type (drop 1 ls)) ls (omega (arith, a, c)) (omega (arith, a, d)))))

pub column_shrinks : (ls : List Lexeme) → length (tables.column_of ls).1 ≤ length ls
unfolding tables.column_of
column_shrinks ls =
    let t : TypeDeclaration × List Lexeme = type_of (drop 1 ls) in
    let a = past_two_shrinks k.Primary (past_two k.Not t.1) in
    let b = past_two_shrinks k.Not t.1 in
    let c = type_shrinks (drop 1 ls) in
    let d = drop_shrinks 1 ls in
    omega (arith, a, b, c, d)

foreign_referred_shrinks : (columns : List (List ℕ)) (parent : List ℕ) (x : List (List ℕ) × List Lexeme) → length (foreign_referred columns parent x).1 ≤ length x.1
foreign_referred_shrinks columns parent x = choice_shrinks (begins k.On (drop 1 x.1)) _ _ x.1 (drop_shrinks 4 x.1) (drop_shrinks 1 x.1)

foreign_key_shrinks : (ls : List Lexeme) → length (foreign_key_of ls).1 ≤ length ls
unfolding foreign_key_of
foreign_key_shrinks ls =
    let i : List (List ℕ) × List Lexeme = identifiers_of (drop 3 ls) in
    let n : List ℕ × List Lexeme = name_of (drop 2 i.1) in
    let j : List (List ℕ) × List Lexeme = identifiers_of (drop 1 n.1) in
    let a = foreign_referred_shrinks i.0 n.0 j in
    let b = identifiers_shrink (drop 1 n.1) in
    let c = drop_shrinks 1 n.1 in
    let d = name_shrinks (drop 2 i.1) in
    let e = drop_shrinks 2 i.1 in
    let f = identifiers_shrink (drop 3 ls) in
    let g = drop_shrinks 3 ls in
    omega (arith, a, b, c, d, e, f, g)

pub element_shrinks : (ls : List Lexeme) → length (element_of ls).1 ≤ length ls
unfolding element_of
element_shrinks ls =
    let a = drop_shrinks 1 (identifiers_of (drop 3 ls)).1 in
    let b = identifiers_shrink (drop 3 ls) in
    let c = drop_shrinks 3 ls in
    choice_shrinks (begins k.Primary ls) (as_key (identifiers_of (drop 3 ls))) _ ls (omega (arith, a, b, c))
    (choice_shrinks (begins k.Foreign ls) (as_foreign_key (foreign_key_of ls)) _ ls (foreign_key_shrinks ls)
    (choice_shrinks (closes k.Readonly ls) _ _ ls (drop_shrinks 1 ls)
    (choice_shrinks (closes k.Propagate ls) _ _ ls (drop_shrinks 1 ls)
    (choice_shrinks (begins k.Not ls) _ (tables.as_column (tables.column_of ls)) ls (drop_shrinks 2 ls) (column_shrinks ls)))))

pub table_shrinks : (ls : List Lexeme) → length (tables.table_of ls).1 ≤ length ls
unfolding tables.table_of
table_shrinks ls =
    let n : List ℕ × List Lexeme = name_of ls in
    let c = tables.column_of (drop 1 n.1) in
    let a = drop_shrinks 1 (tables.elements_of n.0 c).1 in
    let b = chain_within _ _ at_comma tables.with_element element_of (tables.table_with n.0 c) element_shrinks refl (length c.1) (tables.table_with n.0 c) c.1 (omega arith) in
    let d = column_shrinks (drop 1 n.1) in
    let e = drop_shrinks 1 n.1 in
    let f = name_shrinks ls in
    omega (arith, a, b, d, e, f)
