-- What the tokens at the front say: expressions. (TimesTen SQL Reference, "Expressions"; `*` binds before `+` and `-`,
-- and each of them from left to right.)
use Rattle.std.specs.Prelude.{ℕ, Bool, ◌||◌, List, length, if◌then◌else◌}
use Rattle.sql_query.specs.expressions.specs.declared.expression.Arithmetic.{Arithmetic}
use Rattle.sql_query.specs.expressions.specs.declared.expression.Arithmetic.TheVariants as arithmetic
use Rattle.sql_grammar.specs.sql_tokens.specs.declared.kind.Kind.{Kind}
use Rattle.sql_grammar.specs.sql_tokens.specs.declared.kind.Kind.TheVariants.{Minus, Plus, Star}
use Rattle.sql_grammar.specs.sql_tokens.specs.Kinds.{is_kind}
use Rattle.sql_grammar.specs.sql_tokens.specs.Lexing.{Lexeme}
use Rattle.sql_grammar.specs.declared.test.Test.TheVariants.{Name}
use Rattle.sql_grammar.specs.Tests.{passes}
use Rattle.sql_query.specs.declared.literal.Literal.{Literal}
use Rattle.sql_query.specs.Trees.{ExpressionTree, Constant, Column, Binary}
use Rattle.sql_phrases.specs.Reading.{begins, first_kind, literal_of, column_of, at_comma, chained, with_last, as_list}

abbrev pub as_constant : Literal × List Lexeme → ExpressionTree × List Lexeme
as_constant x = (Constant x.0, x.1)

abbrev pub as_column : List ℕ × List Lexeme → ExpressionTree × List Lexeme
as_column x = (Column x.0, x.1)

-- literal | colref
abbrev pub factor_of : List Lexeme → ExpressionTree × List Lexeme
factor_of ls = if passes Name (first_kind ls) then as_column (column_of ls) else as_constant (literal_of ls)

-- the first token is a `*`
abbrev pub at_star : List Lexeme → Bool
at_star ls = begins Star ls

abbrev pub multiplied : Kind → ExpressionTree → ExpressionTree → ExpressionTree
multiplied k a b = Binary arithmetic.Times a b

-- factor { "*" factor }
abbrev pub term_of : List Lexeme → ExpressionTree × List Lexeme
term_of ls = chained at_star multiplied factor_of (length ls) (factor_of ls)

-- the first token is a sign
abbrev pub at_sign : List Lexeme → Bool
at_sign ls = begins Plus ls || begins Minus ls

-- the operation of a sign
abbrev pub sign_of : Kind → Arithmetic
sign_of k = if is_kind k Plus then arithmetic.Plus else arithmetic.Minus

abbrev pub added : Kind → ExpressionTree → ExpressionTree → ExpressionTree
added k a b = Binary (sign_of k) a b

-- term { ("+" | "-") term }
unfoldable pub expression_of : List Lexeme → ExpressionTree × List Lexeme
expression_of ls = chained at_sign added term_of (length ls) (term_of ls)

-- expr { "," expr }
unfoldable pub expressions_of : List Lexeme → List ExpressionTree × List Lexeme
expressions_of ls = chained at_comma with_last expression_of (length ls) (as_list (expression_of ls))
