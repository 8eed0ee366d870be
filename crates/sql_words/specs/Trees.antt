-- The words of expressions and conditions (this project's rule): parentheses stand exactly where the tree needs them.
use Rattle.std.specs.Prelude.{Bool, true, false, List, [], ◌∷◌, ◌++◌, codes, Option, Some, None}
use Rattle.std.specs.List.{flat_map}
use Rattle.sql_phrases.specs.expressions.specs.declared.condition.Comparator.{Comparator}
use Rattle.sql_phrases.specs.expressions.specs.declared.condition.Comparator.TheVariants as comparators
use Rattle.sql_phrases.specs.expressions.specs.declared.expression.Arithmetic.{Arithmetic}
use Rattle.sql_phrases.specs.expressions.specs.declared.expression.Arithmetic.TheVariants as arithmetic
use Rattle.sql_phrases.specs.sql_query.specs.Trees.{ExpressionTree, ConditionTree, Constant, Column, Binary, Compared, Missing, Between, Among, Not, All, Any}
use Rattle.sql_phrases.specs.sql_query.specs.declared.expression.Link.{Link}
use Rattle.sql_words.specs.declared.condition.Strength.{Strength}
use Rattle.sql_words.specs.declared.condition.Strength.TheVariants.{Loose, Middle, Tight}
use Rattle.sql_words.specs.Words.{Word, where_so, enclosed, listed, column_name_words, literal_words}

abbrev pub operation_word : Arithmetic → Word
operation_word arithmetic.Plus = codes "+"
operation_word arithmetic.Minus = codes "-"
operation_word arithmetic.Times = codes "*"

-- Expressions have no parentheses: what is read is a sum of products.
abbrev pub expression_words : ExpressionTree → List Word
expression_words (Constant literal) = literal_words literal
expression_words (Column name) = column_name_words name
expression_words (Binary operation a b) = expression_words a ++ operation_word operation ∷ expression_words b

-- each operation of a chain, and the operand behind it
abbrev pub link_words : List Link → List Word
link_words links = flat_map (λ link. operation_word link.operation ∷ expression_words link.operand) links

abbrev pub comparator_word : Comparator → Word
comparator_word comparators.Equal = codes "="
comparator_word comparators.NotEqual = codes "<>"
comparator_word comparators.Less = codes "<"
comparator_word comparators.AtMost = codes "<="
comparator_word comparators.Greater = codes ">"
comparator_word comparators.AtLeast = codes ">="

-- a NOT inside of a test
abbrev pub not_words : Bool → List Word
not_words negated = where_so negated (codes "NOT" ∷ [])

-- AND needs parentheses
abbrev pub binds_and : Strength → Bool
binds_and Loose = false
binds_and Middle = false
binds_and Tight = true

-- OR needs parentheses
abbrev pub binds_or : Strength → Bool
binds_or Loose = false
binds_or Middle = true
binds_or Tight = true

-- between parentheses where they are needed
abbrev pub bracketed : Bool → List Word → List Word
bracketed needed words = where_so needed (codes "(" ∷ []) ++ words ++ where_so needed (codes ")" ∷ [])

-- BETWEEN low AND high
abbrev pub range_words : ExpressionTree → ExpressionTree → List Word
range_words low high = codes "BETWEEN" ∷ expression_words low ++ codes "AND" ∷ expression_words high

-- IN ( expressions )
abbrev pub membership_words : List ExpressionTree → List Word
membership_words list = codes "IN" ∷ enclosed (listed expression_words list)

-- the words of a condition beside what binds so strongly
abbrev pub condition_words : Strength → ConditionTree → List Word
condition_words s (Compared comparator a b) = expression_words a ++ comparator_word comparator ∷ expression_words b
condition_words s (Missing negated a) = expression_words a ++ codes "IS" ∷ not_words negated ++ codes "NULL" ∷ []
condition_words s (Between negated a low high) = expression_words a ++ not_words negated ++ range_words low high
condition_words s (Among negated a list) = expression_words a ++ not_words negated ++ membership_words list
condition_words s (Not a) = codes "NOT" ∷ condition_words Tight a
condition_words s (All a b) =
    bracketed (binds_and s) (condition_words Middle a ++ codes "AND" ∷ condition_words Tight b)
condition_words s (Any a b) = bracketed (binds_or s) (condition_words Loose a ++ codes "OR" ∷ condition_words Middle b)

-- for each condition, the word and the condition beside what binds so strongly
abbrev pub other_words : Word → Strength → List ConditionTree → List Word
other_words word s conditions = flat_map (λ condition. word ∷ condition_words s condition) conditions

-- [ WHERE condition ]
abbrev pub filter_words : Option ConditionTree → List Word
filter_words None = []
filter_words (Some condition) = codes "WHERE" ∷ condition_words Loose condition
