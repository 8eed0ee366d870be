-- Cache groups, as data. (TimesTen SQL Reference, "CREATE CACHE GROUP", in this project's profile.)
use Rattle.sql_tokens.specs.declared.kind.Kind.TheVariants.{Comma, From, Where, Cache, Group, On, Aging, Readonly, Asynchronous, Synchronous, Writethrough, Dynamic, Usermanaged, Index, Autorefresh, Mode, Interval, State, Off, Lru, Use, Lifetime, Cycle}
use Rattle.sql_grammar.specs.declared.test.Test.TheVariants.{Name, Whole, Manner, Rest, IntervalUnit, LifetimeUnit}
use Rattle.sql_grammar.specs.declared.rule.Rule.TheVariants as rules
use Rattle.sql_grammar.specs.Grammar.{Grammar, Empty, Token, Named}
use Rattle.sql_grammar.specs.Notation.{◌▸◌, the, optional, choice, repeated}
use Rattle.sql_grammar.specs.Queries.{filtered}
use Rattle.sql_grammar.specs.Tables.{index}

-- ON | OFF | PAUSED
abbrev pub state : Grammar
state = choice On Empty (Token Rest)

-- [ AUTOREFRESH [MODE manner] [INTERVAL n unit] [STATE state] ]
abbrev pub autorefresh : Grammar
autorefresh =
    optional Autorefresh (optional Mode (Token Manner) ▸ optional Interval (Token Whole ▸ Token IntervalUnit)
    ▸ optional State state)

-- ( LRU | USE ident LIFETIME n span [CYCLE n span] ) [ON|OFF]
abbrev pub aging : Grammar
aging = choice Lru Empty (the Use ▸ Token Name ▸ the Lifetime ▸ Token Whole ▸ Token LifetimeUnit
    ▸ optional Cycle (Token Whole ▸ Token LifetimeUnit)) ▸ choice On Empty (optional Off Empty)

-- table with AGING .. and WHERE cond, each at most once, in any order
abbrev pub group_table : Grammar
group_table =
    Named rules.CachedTable
    ▸ choice Aging (Named rules.Aging ▸ filtered)
    (optional Where (Named rules.Cond ▸ optional Aging (Named rules.Aging)))

-- CACHE GROUP name [autorefresh] FROM group_table { "," group_table }
abbrev pub group : Grammar
group = the Cache ▸ the Group ▸ Named rules.Named ▸ autorefresh ▸ the From ▸ group_table ▸ repeated Comma group_table

-- READONLY | ASYNCHRONOUS WRITETHROUGH | SYNCHRONOUS WRITETHROUGH
abbrev pub way : Grammar
way = choice Readonly Empty (choice Asynchronous (the Writethrough) (the Synchronous ▸ the Writethrough))

-- DYNAMIC way group | USERMANAGED group | way group
abbrev pub create_group : Grammar
create_group =
    choice Dynamic (way ▸ Named rules.Group) (choice Usermanaged (Named rules.Group) (way ▸ Named rules.Group))

-- INDEX index | create_group
abbrev pub create : Grammar
create = choice Index index create_group
