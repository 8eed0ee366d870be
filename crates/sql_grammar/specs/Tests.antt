-- What a test of one token lets pass.
use Rattle.std.specs.Prelude.{ℕ, Bool, nat_le, ◌&&◌}
use Rattle.sql_tokens.specs.declared.kind.Kind.{Kind}
use Rattle.sql_tokens.specs.declared.kind.Kind.TheVariants.{Plus, Minus, Equals, AtLeast, Zero, One, Three, Integer, Decimal, Asc, Desc, Sum, Max, Readonly, TtInteger, Incremental, Full, Millisecond, Second, Minute, Day, Off, Paused, Identifier}
use Rattle.sql_tokens.specs.Kinds.{code}
use Rattle.sql_grammar.specs.declared.test.Test.{Test}
use Rattle.sql_grammar.specs.declared.test.Test.TheVariants.{Only, Name, Column, Sign, Compare, Whole, Digits, Level, Flag, Direction, Fold, Manner, Rest, IntervalUnit, LifetimeUnit}

-- the least and the greatest kind that passes: the kinds of a test stand together (this project's rule)
abbrev pub least_of : Test → Kind
least_of (Only k) = k
least_of Name = Readonly
least_of Column = TtInteger
least_of Sign = Plus
least_of Compare = Equals
least_of Whole = Zero
least_of Digits = Zero
least_of Level = Zero
least_of Flag = Zero
least_of Direction = Asc
least_of Fold = Sum
least_of Manner = Incremental
least_of Rest = Off
least_of IntervalUnit = Millisecond
least_of LifetimeUnit = Second

abbrev pub greatest_of : Test → Kind
greatest_of (Only k) = k
greatest_of Name = Identifier
greatest_of Column = Identifier
greatest_of Sign = Minus
greatest_of Compare = AtLeast
greatest_of Whole = Integer
greatest_of Digits = Decimal
greatest_of Level = Three
greatest_of Flag = One
greatest_of Direction = Desc
greatest_of Fold = Max
greatest_of Manner = Full
greatest_of Rest = Paused
greatest_of IntervalUnit = Minute
greatest_of LifetimeUnit = Day

-- the same as numbers
abbrev pub low_of : Test → ℕ
low_of t = code (least_of t)

abbrev pub high_of : Test → ℕ
high_of t = code (greatest_of t)

-- the token's kind passes the test
abbrev pub passes : Test → Kind → Bool
passes t k = nat_le (low_of t) (code k) && nat_le (code k) (high_of t)
