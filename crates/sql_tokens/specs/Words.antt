-- Words: numbers, keywords and identifiers.
use Rattle.std.specs.Prelude.{ℕ, List, [], ◌∷◌, ◌&&◌, nat_eq, nat_le, length, codes, if◌then◌else◌}
use Rattle.std.specs.List.{list_all}
use Rattle.std.specs.Char.{is_ascii_digit}
use Rattle.tier_base.specs.Names.{begins_with_letter, spells}
use Rattle.sql_tokens.specs.declared.kind.Kind.{Kind}
use Rattle.sql_tokens.specs.declared.kind.Kind.TheVariants.{Bad, Zero, One, Two, Three, Integer, Decimal, Identifier, Select, From, Where, And, Or, Not, Null, Is, In, Between, Order, By, Asc, Desc, Insert, Into, Values, Update, Set, Delete, Create, Alter, Drop, Table, Cache, Group, Primary, Foreign, Key, References, On, Cascade, Timestamp, Count, Sum, Min, Max, Call, Commit, Rollback, Load, Refresh, Unload, Flush, Aging, Readonly, Propagate, TtInteger, TtBigint, Varchar2, Byte, Number, Open, Close, Passthrough, Durable, Asynchronous, Synchronous, Writethrough, Dynamic, Usermanaged, Index, Autorefresh, Mode, Incremental, Full, Interval, Millisecond, Second, Minute, Hour, Day, State, Off, Paused, Lru, Use, Lifetime, Cycle, With, Id, Every, Rows, Parallel}

-- the keywords, in upper case (TimesTen SQL Reference; which of them are reserved is this project's rule)
abbrev pub keywords : List (List ℕ × Kind)
keywords =
    (codes "SELECT", Select)
    ∷ (codes "FROM", From)
    ∷ (codes "WHERE", Where)
    ∷ (codes "AND", And)
    ∷ (codes "OR", Or)
    ∷ (codes "NOT", Not)
    ∷ (codes "NULL", Null)
    ∷ (codes "IS", Is)
    ∷ (codes "IN", In)
    ∷ (codes "BETWEEN", Between)
    ∷ (codes "ORDER", Order)
    ∷ (codes "BY", By)
    ∷ (codes "ASC", Asc)
    ∷ (codes "DESC", Desc)
    ∷ (codes "INSERT", Insert)
    ∷ (codes "INTO", Into)
    ∷ (codes "VALUES", Values)
    ∷ (codes "UPDATE", Update)
    ∷ (codes "SET", Set)
    ∷ (codes "DELETE", Delete)
    ∷ (codes "CREATE", Create)
    ∷ (codes "ALTER", Alter)
    ∷ (codes "DROP", Drop)
    ∷ (codes "TABLE", Table)
    ∷ (codes "CACHE", Cache)
    ∷ (codes "GROUP", Group)
    ∷ (codes "PRIMARY", Primary)
    ∷ (codes "FOREIGN", Foreign)
    ∷ (codes "KEY", Key)
    ∷ (codes "REFERENCES", References)
    ∷ (codes "ON", On)
    ∷ (codes "CASCADE", Cascade)
    ∷ (codes "TIMESTAMP", Timestamp)
    ∷ (codes "COUNT", Count)
    ∷ (codes "SUM", Sum)
    ∷ (codes "MIN", Min)
    ∷ (codes "MAX", Max)
    ∷ (codes "CALL", Call)
    ∷ (codes "COMMIT", Commit)
    ∷ (codes "ROLLBACK", Rollback)
    ∷ (codes "LOAD", Load)
    ∷ (codes "REFRESH", Refresh)
    ∷ (codes "UNLOAD", Unload)
    ∷ (codes "FLUSH", Flush)
    ∷ (codes "AGING", Aging)
    ∷ (codes "READONLY", Readonly)
    ∷ (codes "PROPAGATE", Propagate)
    ∷ (codes "TT_INTEGER", TtInteger)
    ∷ (codes "TT_BIGINT", TtBigint)
    ∷ (codes "VARCHAR2", Varchar2)
    ∷ (codes "BYTE", Byte)
    ∷ (codes "NUMBER", Number)
    ∷ (codes "OPEN", Open)
    ∷ (codes "CLOSE", Close)
    ∷ (codes "PASSTHROUGH", Passthrough)
    ∷ (codes "DURABLE", Durable)
    ∷ (codes "ASYNCHRONOUS", Asynchronous)
    ∷ (codes "SYNCHRONOUS", Synchronous)
    ∷ (codes "WRITETHROUGH", Writethrough)
    ∷ (codes "DYNAMIC", Dynamic)
    ∷ (codes "USERMANAGED", Usermanaged)
    ∷ (codes "INDEX", Index)
    ∷ (codes "AUTOREFRESH", Autorefresh)
    ∷ (codes "MODE", Mode)
    ∷ (codes "INCREMENTAL", Incremental)
    ∷ (codes "FULL", Full)
    ∷ (codes "INTERVAL", Interval)
    ∷ (codes "MILLISECOND", Millisecond)
    ∷ (codes "MILLISECONDS", Millisecond)
    ∷ (codes "SECOND", Second)
    ∷ (codes "SECONDS", Second)
    ∷ (codes "MINUTE", Minute)
    ∷ (codes "MINUTES", Minute)
    ∷ (codes "HOUR", Hour)
    ∷ (codes "HOURS", Hour)
    ∷ (codes "DAY", Day)
    ∷ (codes "DAYS", Day)
    ∷ (codes "STATE", State)
    ∷ (codes "OFF", Off)
    ∷ (codes "PAUSED", Paused)
    ∷ (codes "LRU", Lru)
    ∷ (codes "USE", Use)
    ∷ (codes "LIFETIME", Lifetime)
    ∷ (codes "CYCLE", Cycle)
    ∷ (codes "WITH", With)
    ∷ (codes "ID", Id)
    ∷ (codes "EVERY", Every)
    ∷ (codes "ROWS", Rows)
    ∷ (codes "PARALLEL", Parallel) ∷ []

-- what the word is by the list: the first keyword that it spells in either case, else an identifier
abbrev pub named : List (List ℕ × Kind) → List ℕ → Kind
named [] word = Identifier
named (e ∷ es) word = if spells word e.0 then e.1 else named es word

-- one digit
abbrev pub digit_kind : ℕ → Kind
digit_kind b =
    if nat_eq b 48 then Zero else if nat_eq b 49 then One else if nat_eq b 50 then Two else if nat_eq b 51 then Three
    else Integer

-- digits: the numbers 0 to 3 of one digit have kinds of their own
abbrev pub number_kind : List ℕ → Kind
number_kind [] = Integer
number_kind (b ∷ []) = digit_kind b
number_kind (b ∷ c ∷ bs) = Integer

-- What a run of letters, digits, `_`, `$` and `#` is: digits alone are a number, a letter and up to 29 bytes more a
-- keyword or an identifier, anything else no token (this project's rule).
abbrev pub word_kind : List ℕ → Kind
word_kind word = if list_all is_ascii_digit word then number_kind word else if begins_with_letter word
    && nat_le (length word) 30 then named keywords word else Bad

-- What digits, a point and the run of letters, digits, `_`, `$` and `#` behind it are: a decimal number where digits
-- alone follow, else no token (this project's rule).
abbrev pub fraction_kind : List ℕ → Kind
fraction_kind run = if list_all is_ascii_digit run then Decimal else Bad
