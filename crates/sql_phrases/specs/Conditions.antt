-- What the tokens at the front say: conditions. (TimesTen SQL Reference, "Search conditions": NOT binds before AND, and
-- AND before OR; AND and OR are taken from left to right.)
use Rattle.std.specs.Prelude.{ℕ, zero, suc, Bool, true, false, List, length, drop, Option, Some, None, if◌then◌else◌}
use Rattle.sql_query.specs.expressions.specs.declared.condition.Comparator.{Comparator}
use Rattle.sql_query.specs.expressions.specs.declared.condition.Comparator.TheVariants as comparators
use Rattle.sql_grammar.specs.sql_tokens.specs.declared.kind.Kind.{Kind}
use Rattle.sql_grammar.specs.sql_tokens.specs.declared.kind.Kind.TheVariants as k
use Rattle.sql_grammar.specs.sql_tokens.specs.Kinds.{is_kind}
use Rattle.sql_grammar.specs.sql_tokens.specs.Lexing.{Lexeme}
use Rattle.sql_grammar.specs.declared.test.Test.TheVariants.{Compare}
use Rattle.sql_grammar.specs.Tests.{passes}
use Rattle.sql_query.specs.Trees.{ExpressionTree, ConditionTree, Compared, Missing, Between, Among, Not, All, Any}
use Rattle.sql_phrases.specs.Reading.{begins, first_kind, chained, past_one}
use Rattle.sql_phrases.specs.Expressions.{expression_of, expressions_of}

-- the comparison of a sign
abbrev pub comparator_of : Kind → Comparator
comparator_of s =
    if is_kind s k.Equals then comparators.Equal
    else if is_kind s k.NotEquals then comparators.NotEqual
    else if is_kind s k.LessThan then comparators.Less
    else if is_kind s k.AtMost then comparators.AtMost
    else if is_kind s k.GreaterThan then comparators.Greater
    else comparators.AtLeast

abbrev pub compared : Comparator → ExpressionTree → ExpressionTree × List Lexeme → ConditionTree × List Lexeme
compared c e x = (Compared c e x.0, x.1)

-- IS [ NOT ] NULL behind an expression
abbrev pub missing : ExpressionTree → List Lexeme → ConditionTree × List Lexeme
missing e ls = if begins k.Not (drop 1 ls) then (Missing true e, drop 3 ls) else (Missing false e, drop 2 ls)

abbrev pub between : Bool → ExpressionTree → ExpressionTree → ExpressionTree × List Lexeme → ConditionTree × List Lexeme
between negated e low x = (Between negated e low x.0, x.1)

abbrev pub between_low : Bool → ExpressionTree → ExpressionTree × List Lexeme → ConditionTree × List Lexeme
between_low negated e x = between negated e x.0 (expression_of (drop 1 x.1))

abbrev pub among : Bool → ExpressionTree → List ExpressionTree × List Lexeme → ConditionTree × List Lexeme
among negated e x = (Among negated e x.0, drop 1 x.1)

-- BETWEEN expr AND expr | IN "(" exprs ")" behind an expression, and NOT where it is negated
unfoldable pub within : Bool → ExpressionTree → List Lexeme → ConditionTree × List Lexeme
within negated e ls =
    if begins k.Between ls then between_low negated e (expression_of (drop 1 ls)) else among negated e
    (expressions_of (drop 2 ls))

-- what stands behind an expression
unfoldable pub tested : ExpressionTree × List Lexeme → ConditionTree × List Lexeme
tested x =
    if passes Compare (first_kind x.1) then compared (comparator_of (first_kind x.1)) x.0 (expression_of (drop 1 x.1))
    else if begins k.Is x.1 then missing x.0 x.1
    else if begins k.Not x.1 then within true x.0 (drop 1 x.1)
    else within false x.0 x.1

-- expr compare expr | expr IS [ NOT ] NULL | expr [ NOT ] BETWEEN .. | expr [ NOT ] IN ..
unfoldable pub test_of : List Lexeme → ConditionTree × List Lexeme
test_of ls = tested (expression_of ls)

abbrev pub negated : ConditionTree × List Lexeme → ConditionTree × List Lexeme
negated x = (Not x.0, x.1)

-- the first token is AND
abbrev pub at_and : List Lexeme → Bool
at_and ls = begins k.And ls

-- the first token is OR
abbrev pub at_or : List Lexeme → Bool
at_or ls = begins k.Or ls

abbrev pub both : Kind → ConditionTree → ConditionTree → ConditionTree
both w a b = All a b

abbrev pub either : Kind → ConditionTree → ConditionTree → ConditionTree
either w a b = Any a b

-- pred { AND pred }, given how a predicate is read
unfoldable pub conjunction_by : (List Lexeme → ConditionTree × List Lexeme) → List Lexeme → ConditionTree × List Lexeme
conjunction_by p ls = chained at_and both p (length ls) (p ls)

-- conj { OR conj }, given how a predicate is read
unfoldable pub condition_by : (List Lexeme → ConditionTree × List Lexeme) → List Lexeme → ConditionTree × List Lexeme
condition_by p ls = chained at_or either (conjunction_by p) (length ls) (conjunction_by p ls)

-- "(" cond ")" | NOT pred | a test, of at most so many levels
unfoldable pub predicate_of : ℕ → List Lexeme → ConditionTree × List Lexeme
predicate_of zero ls = test_of ls
predicate_of (suc n) ls =
    if begins k.OpenParen ls then past_one (condition_by (predicate_of n) (drop 1 ls))
    else if begins k.Not ls then negated (predicate_of n (drop 1 ls))
    else test_of ls

-- cond, of at most 32 levels
unfoldable pub condition_of : List Lexeme → ConditionTree × List Lexeme
condition_of ls = condition_by (predicate_of 32) ls

abbrev pub as_filter : ConditionTree × List Lexeme → Option ConditionTree × List Lexeme
as_filter x = (Some x.0, x.1)

-- [ WHERE cond ]
unfoldable pub filter_of : List Lexeme → Option ConditionTree × List Lexeme
filter_of ls = if begins k.Where ls then as_filter (condition_of (drop 1 ls)) else (None, ls)
