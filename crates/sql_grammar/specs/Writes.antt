-- Statements that write rows, as data. (TimesTen SQL Reference, "INSERT", "UPDATE" and "DELETE", in this project's
-- profile.)
use Rattle.sql_tokens.specs.declared.kind.Kind.TheVariants.{Semicolon, Comma, OpenParen, CloseParen, Equals, From, Insert, Into, Values, Update, Set, Delete}
use Rattle.sql_grammar.specs.declared.test.Test.TheVariants.{Name}
use Rattle.sql_grammar.specs.declared.rule.Rule.TheVariants as rules
use Rattle.sql_grammar.specs.Grammar.{Grammar, Token, Named}
use Rattle.sql_grammar.specs.Notation.{◌▸◌, the, optional, choice, repeated}
use Rattle.sql_grammar.specs.Queries.{exprs, filtered}

-- INTO name [ "(" idents ")" ] VALUES "(" exprs ")"
abbrev pub insert : Grammar
insert = the Into ▸ Named rules.Named ▸ optional OpenParen (Named rules.Idents ▸ the CloseParen) ▸ the Values
    ▸ the OpenParen ▸ exprs ▸ the CloseParen

-- ident "=" expr
abbrev pub assign : Grammar
assign = Token Name ▸ the Equals ▸ Named rules.Expr

-- name SET assign { "," assign } [ WHERE cond ]
abbrev pub update : Grammar
update = Named rules.Named ▸ the Set ▸ assign ▸ repeated Comma assign ▸ filtered

-- FROM name [ WHERE cond ]
abbrev pub delete : Grammar
delete = the From ▸ Named rules.Named ▸ filtered

-- INSERT .. | UPDATE .. | DELETE .., and the writes behind it
abbrev pub write : Grammar
write = choice Insert (Named rules.Insert ▸ Named rules.Writes)
    (choice Update (Named rules.Update ▸ Named rules.Writes) (the Delete ▸ Named rules.Delete ▸ Named rules.Writes))

-- [ ";" [ write ] ]
abbrev pub writes : Grammar
writes = optional Semicolon (choice Insert (Named rules.Insert ▸ Named rules.Writes)
    (choice Update (Named rules.Update ▸ Named rules.Writes)
    (optional Delete (Named rules.Delete ▸ Named rules.Writes))))
