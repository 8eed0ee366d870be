-- How grammars are written.
use Rattle.sql_tokens.specs.declared.kind.Kind.{Kind}
use Rattle.sql_grammar.specs.declared.test.Test.TheVariants.{Only}
use Rattle.sql_grammar.specs.Grammar.{Grammar, Empty, Token, Then, Either, Many}

-- the first, then the second
infixr 60 ◌▸◌
abbrev pub ◌▸◌ : Grammar → Grammar → Grammar
a ▸ b = Then a b

-- this kind of token
abbrev pub the : Kind → Grammar
the k = Token (Only k)

-- [ k a ]
abbrev pub optional : Kind → Grammar → Grammar
optional k a = Either (Only k) a Empty

-- k a | b
abbrev pub choice : Kind → Grammar → Grammar → Grammar
choice k a b = Either (Only k) a b

-- { k a }
abbrev pub repeated : Kind → Grammar → Grammar
repeated k a = Many (Only k) a
