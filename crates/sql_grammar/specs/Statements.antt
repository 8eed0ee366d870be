-- Statements and lines, as data. (TimesTen SQL Reference, "SQL statements" and "CALL", in this project's profile; the
-- lines of sessions, of the console and of the clock are this project's rule.)
use Rattle.sql_tokens.specs.declared.kind.Kind.TheVariants.{Colon, Semicolon, Comma, OpenParen, CloseParen, Plus, Select, Insert, Update, Delete, Create, Alter, Drop, Table, Call, Commit, Rollback, Load, Refresh, Unload, Flush, Open, Close, Passthrough, Durable}
use Rattle.sql_grammar.specs.declared.test.Test.TheVariants.{Whole, Level, Flag}
use Rattle.sql_grammar.specs.declared.rule.Rule.TheVariants as rules
use Rattle.sql_grammar.specs.Grammar.{Grammar, Empty, Token, Named}
use Rattle.sql_grammar.specs.Notation.{◌▸◌, the, optional, choice, repeated}
use Rattle.sql_grammar.specs.Writes.{write}
use Rattle.sql_grammar.specs.Tables.{table}
use Rattle.sql_grammar.specs.Loading.{unloaded, loaded, altered, dropped}

-- name [ "(" [ literal { "," literal } ] ")" ]
abbrev pub called : Grammar
called = Named rules.Named
    ▸ optional OpenParen (choice CloseParen Empty (Named rules.Literal ▸ repeated Comma (Named rules.Literal)
    ▸ the CloseParen))

-- a statement of a session
abbrev pub statement : Grammar
statement = choice Select (Named rules.Select)
    (choice Insert (Named rules.Insert) (choice Update (Named rules.Update)
    (choice Delete (Named rules.Delete) (choice Create (Named rules.Create)
    (choice Load loaded (choice Refresh loaded
    (choice Unload unloaded (choice Flush unloaded
    (choice Drop dropped (choice Alter altered
    (choice Call (Named rules.Called) (choice Commit Empty (the Rollback)))))))))))))

-- a statement without a label: statement [ ";" ]
abbrev pub alone : Grammar
alone = Named rules.Statement ▸ optional Semicolon Empty

-- [ PASSTHROUGH 0|1|2|3 ] [ DURABLE 0|1 ]
abbrev pub opened : Grammar
opened = optional Passthrough (Token Level) ▸ optional Durable (Token Flag)

-- a line of a session behind its label: ":" ( OPEN .. | CLOSE | statement ) [ ";" ]
abbrev pub session : Grammar
session = the Colon ▸ choice Open opened (choice Close Empty (Named rules.Statement)) ▸ optional Semicolon Empty

-- a line of the console behind its label: ":" ( CREATE TABLE table [ ";" ] | write { ";" write } [ ";" ] )
abbrev pub console : Grammar
console = the Colon ▸ choice Create (the Table ▸ table ▸ optional Semicolon Empty) write

-- a line of the clock behind its label: ":" "+" number [ ";" ]
abbrev pub clock : Grammar
clock = the Colon ▸ the Plus ▸ Token Whole ▸ optional Semicolon Empty
