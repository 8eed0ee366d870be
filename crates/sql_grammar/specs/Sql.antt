-- The grammar of the lines, as data: its rules, and what is known of them.
use Rattle.std.specs.Prelude.{ℕ, Bool, true, false, List, [], ◌∷◌}
use Rattle.sql_tokens.specs.declared.kind.Kind.TheVariants.{Semicolon, Comma, Dot, OpenParen, CloseParen, Star, Minus, Text, Select, From, Where, And, Or, Not, Null, Order, Insert, Into, Update, Delete, Create, Alter, Drop, Cache, Group, On, Timestamp, Count, Call, Commit, Rollback, Load, Refresh, Unload, Flush, Aging, Readonly, Asynchronous, Synchronous, Dynamic, Usermanaged, Index, Off, Lru, Use, Cycle, With, Parallel}
use Rattle.sql_grammar.specs.declared.test.Test.{Test}
use Rattle.sql_grammar.specs.declared.test.Test.TheVariants.{Only, Name, Sign, Digits, Direction, Fold}
use Rattle.sql_grammar.specs.declared.rule.Rule.{Rule}
use Rattle.sql_grammar.specs.declared.rule.Rule.TheVariants as rules
use Rattle.sql_grammar.specs.declared.start.Start.{Start}
use Rattle.sql_grammar.specs.declared.start.Start.TheVariants as starts
use Rattle.sql_grammar.specs.Grammar.{Grammar}
use Rattle.sql_grammar.specs.Decided.{Known}
use Rattle.sql_grammar.specs.Queries.{named, idents, literal, expr, pred, cond, after, exprs_rest, aggs_rest, mixed_rest, select}
use Rattle.sql_grammar.specs.Writes.{insert, update, delete, writes}
use Rattle.sql_grammar.specs.Tables.{columns, cached_columns, cached_table}
use Rattle.sql_grammar.specs.Groups.{aging, group, create}
use Rattle.sql_grammar.specs.Loading.{chosen}
use Rattle.sql_grammar.specs.Statements.{called, statement, alone, session, console, clock}

-- The rules that are called by name.
abbrev pub rule : Rule → Grammar
rule rules.Named = named
rule rules.Idents = idents
rule rules.Literal = literal
rule rules.Expr = expr
rule rules.Pred = pred
rule rules.Cond = cond
rule rules.After = after
rule rules.Exprs = exprs_rest
rule rules.Aggs = aggs_rest
rule rules.Mixed = mixed_rest
rule rules.Select = select
rule rules.Insert = insert
rule rules.Update = update
rule rules.Delete = delete
rule rules.Writes = writes
rule rules.Columns = columns
rule rules.CachedColumns = cached_columns
rule rules.CachedTable = cached_table
rule rules.Aging = aging
rule rules.Group = group
rule rules.Create = create
rule rules.Chosen = chosen
rule rules.Called = called
rule rules.Statement = statement

-- What a whole text may be.
abbrev pub grammar_of : Start → Grammar
grammar_of starts.Statement = alone
grammar_of starts.Session = session
grammar_of starts.Console = console
grammar_of starts.Clock = clock

-- What is known of the rules.
abbrev pub known : Known
known = record {
  empty = λ m. empty_known m;
  starts = λ m. starts_known m;
  ends = λ m. ends_known m;
  weight =
      λ m. weight_known m;
}
  where
    empty_known : Rule → Bool
    empty_known rules.Named = false
    empty_known rules.Idents = false
    empty_known rules.Literal = false
    empty_known rules.Expr = false
    empty_known rules.Pred = false
    empty_known rules.Cond = false
    empty_known rules.After = false
    empty_known rules.Exprs = false
    empty_known rules.Aggs = false
    empty_known rules.Mixed = false
    empty_known rules.Select = false
    empty_known rules.Insert = false
    empty_known rules.Update = false
    empty_known rules.Delete = false
    empty_known rules.Writes = true
    empty_known rules.Columns = false
    empty_known rules.CachedColumns = false
    empty_known rules.CachedTable = false
    empty_known rules.Aging = false
    empty_known rules.Group = false
    empty_known rules.Create = false
    empty_known rules.Chosen = true
    empty_known rules.Called = false
    empty_known rules.Statement = false

    starts_known : Rule → List Test
    starts_known rules.Named = Name ∷ []
    starts_known rules.Idents = Name ∷ []
    starts_known rules.Literal = Digits ∷ Only Text ∷ Only Null ∷ Only Timestamp ∷ Only Minus ∷ []
    starts_known rules.Expr = Name ∷ Digits ∷ Only Text ∷ Only Null ∷ Only Timestamp ∷ Only Minus ∷ []
    starts_known rules.Pred =
        Only OpenParen ∷ Only Not ∷ Name ∷ Digits ∷ Only Text ∷ Only Null ∷ Only Timestamp ∷ Only Minus ∷ []
    starts_known rules.Cond =
        Only OpenParen ∷ Only Not ∷ Name ∷ Digits ∷ Only Text ∷ Only Null ∷ Only Timestamp ∷ Only Minus ∷ []
    starts_known rules.After = Only From ∷ []
    starts_known rules.Exprs = Only Comma ∷ Only From ∷ []
    starts_known rules.Aggs = Only Comma ∷ Only From ∷ []
    starts_known rules.Mixed = Only Comma ∷ Only From ∷ []
    starts_known rules.Select =
        Only Star ∷ Only Count ∷ Fold ∷ Name ∷ Digits ∷ Only Text ∷ Only Null ∷ Only Timestamp ∷ Only Minus ∷ []
    starts_known rules.Insert = Only Into ∷ []
    starts_known rules.Update = Name ∷ []
    starts_known rules.Delete = Only From ∷ []
    starts_known rules.Writes = Only Semicolon ∷ []
    starts_known rules.Columns = Only CloseParen ∷ Only Comma ∷ []
    starts_known rules.CachedColumns = Only CloseParen ∷ Only Comma ∷ []
    starts_known rules.CachedTable = Name ∷ []
    starts_known rules.Aging = Only Lru ∷ Only Use ∷ []
    starts_known rules.Group = Only Cache ∷ []
    starts_known rules.Create =
        Only Index ∷ Only Dynamic ∷ Only Usermanaged ∷ Only Readonly ∷ Only Asynchronous ∷ Only Synchronous ∷ []
    starts_known rules.Chosen = Only Where ∷ Only With ∷ []
    starts_known rules.Called = Name ∷ []
    starts_known rules.Statement =
        Only Select ∷ Only Insert ∷ Only Update ∷ Only Delete ∷ Only Create ∷ Only Load ∷ Only Refresh ∷ Only Unload
        ∷ Only Flush ∷ Only Drop ∷ Only Alter ∷ Only Call ∷ Only Commit ∷ Only Rollback ∷ []

    ends_known : Rule → List Test
    ends_known rules.Named = Only Dot ∷ []
    ends_known rules.Idents = Only Comma ∷ []
    ends_known rules.Literal = []
    ends_known rules.Expr = Sign ∷ Only Star ∷ Only Dot ∷ []
    ends_known rules.Pred = Sign ∷ Only Star ∷ Only Dot ∷ []
    ends_known rules.Cond = Only Or ∷ Only And ∷ Sign ∷ Only Star ∷ Only Dot ∷ []
    ends_known rules.After =
        Only Comma ∷ Direction ∷ Only Dot ∷ Only Order ∷ Only Group ∷ Only Or ∷ Only And ∷ Sign ∷ Only Star ∷ Only Where
        ∷ Name ∷ []
    ends_known rules.Exprs =
        Only Comma ∷ Direction ∷ Only Dot ∷ Only Order ∷ Only Group ∷ Only Where ∷ Name ∷ Only Or ∷ Only And ∷ Sign
        ∷ Only Star ∷ []
    ends_known rules.Aggs =
        Only Comma ∷ Direction ∷ Only Dot ∷ Only Order ∷ Only Group ∷ Only Where ∷ Name ∷ Only Or ∷ Only And ∷ Sign
        ∷ Only Star ∷ []
    ends_known rules.Mixed = Only Comma ∷ Direction ∷ Only Dot ∷ Only Order ∷ []
    ends_known rules.Select =
        Only Comma ∷ Direction ∷ Only Dot ∷ Only Order ∷ Only Group ∷ Only Or ∷ Only And ∷ Sign ∷ Only Star ∷ Only Where
        ∷ Name ∷ []
    ends_known rules.Insert = []
    ends_known rules.Update = Only Or ∷ Only And ∷ Sign ∷ Only Star ∷ Only Dot ∷ Only Where ∷ Only Comma ∷ []
    ends_known rules.Delete = Only Or ∷ Only And ∷ Sign ∷ Only Star ∷ Only Dot ∷ Only Where ∷ []
    ends_known rules.Writes =
        Only Delete ∷ Only Update ∷ Only Insert ∷ Only Semicolon ∷ Only Where ∷ Only Comma ∷ Only Or ∷ Only And ∷ Sign
        ∷ Only Star ∷ Only Dot ∷ []
    ends_known rules.Columns = []
    ends_known rules.CachedColumns = []
    ends_known rules.CachedTable = []
    ends_known rules.Aging = Only Off ∷ Only On ∷ Only Cycle ∷ []
    ends_known rules.Group =
        Only Comma ∷ Only Or ∷ Only And ∷ Sign ∷ Only Star ∷ Only Dot ∷ Only Where ∷ Only Off ∷ Only On ∷ Only Cycle
        ∷ Only Aging ∷ []
    ends_known rules.Create =
        Only Comma ∷ Only Or ∷ Only And ∷ Sign ∷ Only Star ∷ Only Dot ∷ Only Where ∷ Only Off ∷ Only On ∷ Only Cycle
        ∷ Only Aging ∷ []
    ends_known rules.Chosen = Only With ∷ Only Or ∷ Only And ∷ Sign ∷ Only Star ∷ Only Dot ∷ Only Where ∷ []
    ends_known rules.Called = Only OpenParen ∷ Only Dot ∷ []
    ends_known rules.Statement =
        Only Comma ∷ Direction ∷ Only Dot ∷ Only Order ∷ Only Group ∷ Only Or ∷ Only And ∷ Sign ∷ Only Star ∷ Only Where
        ∷ Name ∷ Only Off ∷ Only On ∷ Only Cycle ∷ Only Aging ∷ Only Parallel ∷ Only Commit ∷ Only With
        ∷ Only OpenParen ∷ []

    weight_known : Rule → ℕ
    weight_known rules.Named = 2
    weight_known rules.Idents = 2
    weight_known rules.Literal = 6
    weight_known rules.Expr = 10
    weight_known rules.Pred = 14
    weight_known rules.Cond = 17
    weight_known rules.After = 3
    weight_known rules.Exprs = 5
    weight_known rules.Aggs = 5
    weight_known rules.Mixed = 4
    weight_known rules.Select = 15
    weight_known rules.Insert = 2
    weight_known rules.Update = 4
    weight_known rules.Delete = 2
    weight_known rules.Writes = 2
    weight_known rules.Columns = 3
    weight_known rules.CachedColumns = 3
    weight_known rules.CachedTable = 4
    weight_known rules.Aging = 4
    weight_known rules.Group = 2
    weight_known rules.Create = 8
    weight_known rules.Chosen = 5
    weight_known rules.Called = 4
    weight_known rules.Statement = 14
