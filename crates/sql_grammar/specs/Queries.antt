-- Names, literals, expressions, conditions and queries, as data. (TimesTen SQL Reference, "Names, namespace and
-- parameters", "Constants", "Expressions", "Search conditions" and "SELECT", in this project's profile.)
use Rattle.sql_tokens.specs.declared.kind.Kind.TheVariants.{Comma, Dot, OpenParen, CloseParen, Star, Minus, Text, From, Where, And, Or, Not, Null, Is, In, Between, Order, By, Group, Timestamp, Count}
use Rattle.sql_grammar.specs.declared.test.Test.TheVariants.{Only, Name, Sign, Compare, Digits, Direction, Fold}
use Rattle.sql_grammar.specs.declared.rule.Rule.TheVariants as rules
use Rattle.sql_grammar.specs.Grammar.{Grammar, Empty, Token, Either, Many, Deeper, Named}
use Rattle.sql_grammar.specs.Notation.{◌▸◌, the, optional, choice, repeated}

-- name = ident [ "." ident ]
abbrev pub named : Grammar
named = Token Name ▸ optional Dot (Token Name)

-- idents = ident { "," ident }
abbrev pub idents : Grammar
idents = Token Name ▸ repeated Comma (Token Name)

-- colref = ident [ "." ident [ "." ident ] ]
abbrev pub colref : Grammar
colref = Token Name ▸ optional Dot (Token Name ▸ optional Dot (Token Name))

-- literal = number | text | NULL | TIMESTAMP text | "-" number
abbrev pub literal : Grammar
literal = Either Digits Empty (choice Text Empty
    (choice Null Empty (choice Timestamp (the Text) (the Minus ▸ Token Digits))))

-- factor = colref | literal
abbrev pub factor : Grammar
factor = Either Name (optional Dot (Token Name ▸ optional Dot (Token Name))) (Named rules.Literal)

-- term = factor { "*" factor }
abbrev pub term : Grammar
term = factor ▸ repeated Star factor

-- expr = term { ("+" | "-") term }
abbrev pub expr : Grammar
expr = term ▸ Many Sign term

-- expr { "," expr }
abbrev pub exprs : Grammar
exprs = Named rules.Expr ▸ repeated Comma (Named rules.Expr)

-- BETWEEN expr AND expr | IN "(" exprs ")"
abbrev pub within : Grammar
within = choice Between (Named rules.Expr ▸ the And ▸ Named rules.Expr) (the In ▸ the OpenParen ▸ exprs
    ▸ the CloseParen)

-- pred = "(" cond ")" | NOT pred | expr compare expr | expr IS [NOT] NULL | expr [NOT] within, where "(" and NOT are
-- one level each
abbrev pub pred : Grammar
pred = Deeper (Only OpenParen) (Named rules.Cond) (the CloseParen)
    (Deeper (Only Not) (Named rules.Pred) Empty (Named rules.Expr
    ▸ Either Compare (Named rules.Expr) (choice Is (optional Not Empty ▸ the Null) (choice Not within within))))

-- conj = pred { AND pred }
abbrev pub conj : Grammar
conj = Named rules.Pred ▸ repeated And (Named rules.Pred)

-- cond = conj { OR conj }
abbrev pub cond : Grammar
cond = conj ▸ repeated Or conj

-- [ WHERE cond ]
abbrev pub filtered : Grammar
filtered = optional Where (Named rules.Cond)

-- "(" ( "*" | expr ) ")"
abbrev pub counted : Grammar
counted = the OpenParen ▸ choice Star Empty (Named rules.Expr) ▸ the CloseParen

-- "(" expr ")"
abbrev pub folded : Grammar
folded = the OpenParen ▸ Named rules.Expr ▸ the CloseParen

-- name [ident]
abbrev pub source : Grammar
source = Named rules.Named ▸ Either Name Empty Empty

-- [ ORDER BY colref [ASC|DESC] { "," colref [ASC|DESC] } ]
abbrev pub ordered : Grammar
ordered = optional Order (the By ▸ colref ▸ Either Direction Empty Empty
    ▸ repeated Comma (colref ▸ Either Direction Empty Empty))

-- FROM source { "," source } [ WHERE cond ]
abbrev pub sources : Grammar
sources = the From ▸ source ▸ repeated Comma source ▸ filtered

-- BY colref { "," colref }
abbrev pub groups : Grammar
groups = the By ▸ colref ▸ repeated Comma colref

-- sources [ GROUP BY .. ] [ ORDER BY .. ]
abbrev pub after : Grammar
after = sources ▸ optional Group groups ▸ ordered

-- sources GROUP BY .. [ ORDER BY .. ]
abbrev pub grouped : Grammar
grouped = sources ▸ the Group ▸ groups ▸ ordered

-- the rest of a list of exprs so far: an aggregate makes it mixed
abbrev pub exprs_rest : Grammar
exprs_rest =
    choice Comma (choice Count (counted ▸ Named rules.Mixed)
    (Either Fold (folded ▸ Named rules.Mixed) (Named rules.Expr ▸ Named rules.Exprs))) (Named rules.After)

-- the rest of a list of aggregates so far: an expr makes it mixed
abbrev pub aggs_rest : Grammar
aggs_rest = choice Comma (choice Count (counted ▸ Named rules.Aggs)
    (Either Fold (folded ▸ Named rules.Aggs) (Named rules.Expr ▸ Named rules.Mixed))) (Named rules.After)

-- the rest of a mixed list, which wants GROUP BY
abbrev pub mixed_rest : Grammar
mixed_rest =
    choice Comma (choice Count (counted ▸ Named rules.Mixed)
    (Either Fold (folded ▸ Named rules.Mixed) (Named rules.Expr ▸ Named rules.Mixed))) grouped

-- list sources ..
abbrev pub select : Grammar
select = choice Star (Named rules.After) (choice Count (counted ▸ Named rules.Aggs)
    (Either Fold (folded ▸ Named rules.Aggs) (Named rules.Expr ▸ Named rules.Exprs)))
