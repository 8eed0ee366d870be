-- What is done to cache groups, as data. (TimesTen SQL Reference, "LOAD CACHE GROUP", "REFRESH CACHE GROUP", "UNLOAD
-- CACHE GROUP", "FLUSH CACHE GROUP", "ALTER CACHE GROUP", "DROP CACHE GROUP" and "DROP INDEX", in this project's
-- profile.)
use Rattle.sql_tokens.specs.declared.kind.Kind.TheVariants.{Comma, OpenParen, CloseParen, Set, Cache, Group, Commit, Index, Autorefresh, State, With, Id, Every, Rows, Parallel}
use Rattle.sql_grammar.specs.declared.test.Test.TheVariants.{Name, Whole}
use Rattle.sql_grammar.specs.declared.rule.Rule.TheVariants as rules
use Rattle.sql_grammar.specs.Grammar.{Grammar, Token, Named}
use Rattle.sql_grammar.specs.Notation.{◌▸◌, the, optional, choice, repeated}
use Rattle.sql_grammar.specs.Queries.{filtered}
use Rattle.sql_grammar.specs.Groups.{state}

-- [ WHERE cond ] [ WITH ID "(" literal { "," literal } ")" ]
abbrev pub chosen : Grammar
chosen = filtered
    ▸ optional With (the Id ▸ the OpenParen ▸ Named rules.Literal ▸ repeated Comma (Named rules.Literal)
    ▸ the CloseParen)

-- CACHE GROUP name which
abbrev pub unloaded : Grammar
unloaded = the Cache ▸ the Group ▸ Named rules.Named ▸ Named rules.Chosen

-- CACHE GROUP name which [COMMIT EVERY n ROWS] [PARALLEL n]
abbrev pub loaded : Grammar
loaded = the Cache ▸ the Group ▸ Named rules.Named ▸ Named rules.Chosen
    ▸ optional Commit (the Every ▸ Token Whole ▸ the Rows) ▸ optional Parallel (Token Whole)

-- CACHE GROUP name SET AUTOREFRESH STATE state
abbrev pub altered : Grammar
altered = the Cache ▸ the Group ▸ Named rules.Named ▸ the Set ▸ the Autorefresh ▸ the State ▸ state

-- INDEX ident | CACHE GROUP name
abbrev pub dropped : Grammar
dropped = choice Index (Token Name) (the Cache ▸ the Group ▸ Named rules.Named)
