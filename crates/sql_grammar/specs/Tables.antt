-- Tables and indexes, as data. (TimesTen SQL Reference, "CREATE TABLE", "CREATE CACHE GROUP" and "CREATE INDEX", in
-- this project's profile.)
use Rattle.sql_tokens.specs.declared.kind.Kind.TheVariants.{Comma, OpenParen, CloseParen, Zero, Not, Null, Delete, Primary, Foreign, Key, References, On, Cascade, Timestamp, Readonly, Propagate, TtInteger, TtBigint, Varchar2, Byte, Number}
use Rattle.sql_grammar.specs.declared.test.Test.TheVariants.{Name, Column, Whole}
use Rattle.sql_grammar.specs.declared.rule.Rule.TheVariants as rules
use Rattle.sql_grammar.specs.Grammar.{Grammar, Empty, Token, Named}
use Rattle.sql_grammar.specs.Notation.{◌▸◌, the, optional, choice}

-- TT_INTEGER | TT_BIGINT | VARCHAR2 "(" n [BYTE] ")" | NUMBER "(" n [ "," n ] ")" | TIMESTAMP [ "(" 0 ")" ]
abbrev pub column_type : Grammar
column_type =
    choice TtInteger Empty (choice TtBigint Empty
    (choice Varchar2 (the OpenParen ▸ Token Whole ▸ optional Byte Empty ▸ the CloseParen)
    (choice Number (the OpenParen ▸ Token Whole ▸ optional Comma (Token Whole) ▸ the CloseParen) (the Timestamp
    ▸ optional OpenParen (the Zero ▸ the CloseParen)))))

-- type [NOT NULL] [PRIMARY KEY]
abbrev pub column_rest : Grammar
column_rest = column_type ▸ optional Not (the Null) ▸ optional Primary (the Key)

-- KEY "(" idents ")"
abbrev pub key_rest : Grammar
key_rest = the Key ▸ the OpenParen ▸ Named rules.Idents ▸ the CloseParen

-- KEY "(" idents ")" REFERENCES name "(" idents ")" [ON DELETE CASCADE]
abbrev pub foreign_rest : Grammar
foreign_rest = the Key ▸ the OpenParen ▸ Named rules.Idents ▸ the CloseParen ▸ the References ▸ Named rules.Named
    ▸ the OpenParen ▸ Named rules.Idents ▸ the CloseParen ▸ optional On (the Delete ▸ the Cascade)

-- type .. columns
abbrev pub more_columns : Grammar
more_columns = column_rest ▸ Named rules.Columns

-- ")" | "," FOREIGN KEY .. ")"
abbrev pub after_key : Grammar
after_key = choice CloseParen Empty (the Comma ▸ the Foreign ▸ foreign_rest ▸ the CloseParen)

-- the rest of a table behind a column
abbrev pub columns : Grammar
columns = choice CloseParen Empty (the Comma ▸ choice Primary (key_rest ▸ after_key)
    (choice Foreign (foreign_rest ▸ the CloseParen) (Token Name ▸ more_columns)))

-- name "(" ident type .. columns
abbrev pub table : Grammar
table = Named rules.Named ▸ the OpenParen ▸ Token Name ▸ column_rest ▸ Named rules.Columns

-- ( READONLY | PROPAGATE | NOT PROPAGATE ) ")"
abbrev pub attribute : Grammar
attribute = choice Readonly (the CloseParen) (choice Propagate (the CloseParen) (the Not ▸ the Propagate
    ▸ the CloseParen))

-- ")" | "," attribute
abbrev pub cached_after_foreign : Grammar
cached_after_foreign = choice CloseParen Empty (the Comma ▸ attribute)

-- ")" | "," ( FOREIGN KEY .. | attribute )
abbrev pub cached_after_key : Grammar
cached_after_key = choice CloseParen Empty (the Comma ▸ choice Foreign (foreign_rest ▸ cached_after_foreign) attribute)

-- type .. columns
abbrev pub more_cached_columns : Grammar
more_cached_columns = column_rest ▸ Named rules.CachedColumns

-- the rest of a cache table behind a column; behind a comma READONLY and PROPAGATE may be an attribute or a column
abbrev pub cached_columns : Grammar
cached_columns =
    choice CloseParen Empty (the Comma ▸ choice Primary (key_rest ▸ cached_after_key)
    (choice Foreign (foreign_rest ▸ cached_after_foreign)
    (choice Not (the Propagate ▸ the CloseParen)
    (choice Readonly (choice CloseParen Empty more_cached_columns)
    (choice Propagate (choice CloseParen Empty more_cached_columns) (Token Column ▸ more_cached_columns))))))

-- name "(" ident type .. columns of a cache table
abbrev pub cached_table : Grammar
cached_table = Named rules.Named ▸ the OpenParen ▸ Token Name ▸ column_rest ▸ Named rules.CachedColumns

-- ident ON name "(" idents ")"
abbrev pub index : Grammar
index = Token Name ▸ the On ▸ Named rules.Named ▸ the OpenParen ▸ Named rules.Idents ▸ the CloseParen
