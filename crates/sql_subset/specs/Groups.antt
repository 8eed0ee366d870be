-- What the tokens at the front say: cache groups. (TimesTen SQL Reference, "CREATE CACHE GROUP".)
use Rattle.std.specs.Prelude.{ℕ, ◌*◌, Bool, true, false, List, length, drop, Option, Some, None, if◌then◌else◌}
use Rattle.sql_phrases.specs.sql_tokens.specs.declared.kind.Kind.{Kind}
use Rattle.sql_phrases.specs.sql_tokens.specs.declared.kind.Kind.TheVariants as k
use Rattle.sql_phrases.specs.sql_tokens.specs.Kinds.{is_kind}
use Rattle.sql_phrases.specs.sql_tokens.specs.Lexing.{Lexeme}
use Rattle.sql_phrases.specs.sql_query.specs.Trees.{ConditionTree}
use Rattle.sql_phrases.specs.declared.tables.CacheTable.{CacheTable}
use Rattle.sql_phrases.specs.declared.tables.TableAttribute.{TableAttribute}
use Rattle.sql_phrases.specs.declared.tables.TableAttribute.TheVariants as attributes
use Rattle.sql_phrases.specs.Reading.{begins, first_kind, first_text, identifier_of, name_of, capped, number_of, at_comma, chained, with_last, as_list}
use Rattle.sql_phrases.specs.Conditions.{filter_of}
use Rattle.sql_phrases.specs.Tables.{table_of, past_word}
use Rattle.sql_subset.specs.declared.stmt.AgingClause.{AgingClause}
use Rattle.sql_subset.specs.declared.stmt.AgingRule.{AgingRule}
use Rattle.sql_subset.specs.declared.stmt.AgingRule.TheVariants as rules
use Rattle.sql_subset.specs.declared.stmt.Autorefresh as autorefreshes
use Rattle.sql_subset.specs.declared.stmt.CreateGroup as groups
use Rattle.sql_subset.specs.declared.stmt.GroupKind.{GroupKind}
use Rattle.sql_subset.specs.declared.stmt.GroupKind.TheVariants.{ReadOnly, AsynchronousWritethrough, SynchronousWritethrough, UserManaged}
use Rattle.sql_subset.specs.declared.stmt.GroupTable.{GroupTable}
use Rattle.sql_subset.specs.declared.stmt.RefreshMode.{RefreshMode}
use Rattle.sql_subset.specs.declared.stmt.RefreshMode.TheVariants as modes
use Rattle.sql_subset.specs.declared.stmt.RefreshState.{RefreshState}
use Rattle.sql_subset.specs.declared.stmt.RefreshState.TheVariants as states

-- the milliseconds of a unit
abbrev pub milliseconds_of : Kind → ℕ
milliseconds_of unit = if is_kind unit k.Millisecond then 1 else if is_kind unit k.Second then 1000 else 60000

-- the milliseconds of so many units
abbrev pub interval_of : List ℕ → Kind → ℕ
interval_of digits unit = capped (number_of digits * milliseconds_of unit)

-- AUTOREFRESH without a part (TimesTen SQL Reference, "CREATE CACHE GROUP")
abbrev pub default_refresh : autorefreshes.Autorefresh
default_refresh = record { mode = modes.Incremental; interval = 300000; state = states.Paused }

abbrev pub mode_of : Kind → RefreshMode
mode_of w = if is_kind w k.Full then modes.Full else modes.Incremental

abbrev pub state_of : Kind → RefreshState
state_of w = if is_kind w k.On then states.On else if is_kind w k.Off then states.Off else states.Paused

-- [ MODE mode ]
abbrev pub with_mode : autorefreshes.Autorefresh × List Lexeme → autorefreshes.Autorefresh × List Lexeme
with_mode x = if begins k.Mode x.1 then (record (x.0) { mode = mode_of (first_kind (drop 1 x.1)) }, drop 2 x.1) else x

-- [ INTERVAL integer unit ]
abbrev pub with_interval : autorefreshes.Autorefresh × List Lexeme → autorefreshes.Autorefresh × List Lexeme
with_interval x =
    if begins k.Interval x.1 then (
      record (x.0) {
        interval =
            interval_of (first_text (drop 1 x.1)) (first_kind (drop 2 x.1));
      },
      drop 3 x.1,
    ) else x

-- [ STATE state ]
abbrev pub with_state : autorefreshes.Autorefresh × List Lexeme → autorefreshes.Autorefresh × List Lexeme
with_state x =
    if begins k.State x.1 then (record (x.0) { state = state_of (first_kind (drop 1 x.1)) }, drop 2 x.1) else x

abbrev pub written : autorefreshes.Autorefresh × List Lexeme → Option autorefreshes.Autorefresh × List Lexeme
written x = (Some x.0, x.1)

-- the clause that a group of this kind has where none is written
abbrev pub unwritten : GroupKind → Option autorefreshes.Autorefresh
unwritten ReadOnly = Some default_refresh
unwritten AsynchronousWritethrough = None
unwritten SynchronousWritethrough = None
unwritten UserManaged = None

-- [ AUTOREFRESH .. ]
abbrev pub refresh_of : GroupKind → List Lexeme → Option autorefreshes.Autorefresh × List Lexeme
refresh_of kind ls =
    if begins k.Autorefresh ls then written (with_state (with_interval (with_mode (default_refresh, drop 1 ls))))
    else (unwritten kind, ls)

-- READONLY | USERMANAGED | ASYNCHRONOUS WRITETHROUGH | SYNCHRONOUS WRITETHROUGH
abbrev pub kind_of : List Lexeme → GroupKind × List Lexeme
kind_of ls =
    if begins k.Readonly ls then (ReadOnly, drop 1 ls)
    else if begins k.Usermanaged ls then (UserManaged, drop 1 ls)
    else if begins k.Asynchronous ls then (AsynchronousWritethrough, drop 2 ls)
    else (SynchronousWritethrough, drop 2 ls)

-- the seconds of a unit
abbrev pub seconds_of : Kind → ℕ
seconds_of unit =
    if is_kind unit k.Second then 1 else if is_kind unit k.Minute then 60 else if is_kind unit k.Hour then 3600
    else 86400

-- the seconds of so many units
abbrev pub span_of : List ℕ → Kind → ℕ
span_of digits unit = capped (number_of digits * seconds_of unit)

-- n span
unfoldable pub long_of : List Lexeme → ℕ × List Lexeme
long_of ls = (span_of (first_text ls) (first_kind (drop 1 ls)), drop 2 ls)

-- [ CYCLE n span ], and 5 minutes where it is left out
unfoldable pub cycle_of : List Lexeme → ℕ × List Lexeme
cycle_of ls = if begins k.Cycle ls then long_of (drop 1 ls) else (300, ls)

abbrev pub timed : List ℕ → ℕ → ℕ × List Lexeme → AgingRule × List Lexeme
timed column lifetime x = (rules.Time (record { column = column; lifetime = lifetime; cycle = x.0 }), x.1)

abbrev pub time_lasting : List ℕ → ℕ × List Lexeme → AgingRule × List Lexeme
time_lasting column x = timed column x.0 (cycle_of x.1)

abbrev pub time_named : List ℕ × List Lexeme → AgingRule × List Lexeme
time_named x = time_lasting x.0 (long_of (drop 1 x.1))

-- ident LIFETIME n span [ CYCLE n span ] behind USE
abbrev pub time_rule_of : List Lexeme → AgingRule × List Lexeme
time_rule_of ls = time_named (identifier_of ls)

-- LRU | USE ident LIFETIME n span [ CYCLE n span ]
abbrev pub aging_rule_of : List Lexeme → AgingRule × List Lexeme
aging_rule_of ls = if begins k.Lru ls then (rules.LastUse, drop 1 ls) else time_rule_of (drop 1 ls)

-- [ ON | OFF ] behind a rule
abbrev pub switched : AgingRule × List Lexeme → AgingClause × List Lexeme
switched x =
    if begins k.On x.1 then (record { rule = x.0; on = true }, drop 1 x.1)
    else if begins k.Off x.1 then (record { rule = x.0; on = false }, drop 1 x.1)
    else (record { rule = x.0; on = true }, x.1)

abbrev pub as_aging : AgingClause × List Lexeme → Option AgingClause × List Lexeme
as_aging x = (Some x.0, x.1)

-- [ AGING rule [ ON | OFF ] ]
unfoldable pub aging_of : List Lexeme → Option AgingClause × List Lexeme
aging_of ls = if begins k.Aging ls then as_aging (switched (aging_rule_of (drop 1 ls))) else (None, ls)

-- the attribute that a table of a group of this kind has, by what is written
abbrev pub attribute_of : GroupKind → Option TableAttribute → Option TableAttribute
attribute_of ReadOnly attribute = attribute
attribute_of AsynchronousWritethrough attribute = attribute
attribute_of SynchronousWritethrough attribute = attribute
attribute_of UserManaged None = Some attributes.NotPropagate
attribute_of UserManaged (Some attribute) = Some attribute

abbrev pub group_table : GroupKind → CacheTable → Option ConditionTree → Option AgingClause → GroupTable
group_table kind t filter aging =
    record { table = t.table; attribute = attribute_of kind t.attribute; filter = filter; aging = aging }

abbrev pub aged_filtered : GroupKind → CacheTable → Option AgingClause → Option ConditionTree × List Lexeme
    → GroupTable × List Lexeme
aged_filtered kind t aging x = (group_table kind t x.0 aging, x.1)

abbrev pub aged : GroupKind → CacheTable → Option AgingClause × List Lexeme → GroupTable × List Lexeme
aged kind t x = aged_filtered kind t x.0 (filter_of x.1)

abbrev pub filtered_aged : GroupKind → CacheTable → Option ConditionTree → Option AgingClause × List Lexeme
    → GroupTable × List Lexeme
filtered_aged kind t filter x = (group_table kind t filter x.0, x.1)

abbrev pub filtered : GroupKind → CacheTable → Option ConditionTree × List Lexeme → GroupTable × List Lexeme
filtered kind t x = filtered_aged kind t x.0 (aging_of x.1)

-- AGING .. and WHERE cond behind a table, in any order
unfoldable pub claused : GroupKind → CacheTable × List Lexeme → GroupTable × List Lexeme
claused kind x = if begins k.Aging x.1 then aged kind x.0 (aging_of x.1) else filtered kind x.0 (filter_of x.1)

-- table with AGING .. and WHERE cond
abbrev pub group_table_of : GroupKind → List Lexeme → GroupTable × List Lexeme
group_table_of kind ls = claused kind (table_of ls)

-- group table { "," group table }
abbrev pub group_tables_of : GroupKind → List Lexeme → List GroupTable × List Lexeme
group_tables_of kind ls =
    chained at_comma with_last (group_table_of kind) (length ls) (as_list (group_table_of kind ls))

abbrev pub grouped : Bool → List ℕ → GroupKind → Option autorefreshes.Autorefresh → List GroupTable × List Lexeme
    → groups.CreateGroup × List Lexeme
grouped dynamic name kind refresh x =
    (record { name = name; kind = kind; dynamic = dynamic; autorefresh = refresh; tables = x.0 }, x.1)

abbrev pub group_refreshed : Bool → List ℕ → GroupKind → Option autorefreshes.Autorefresh × List Lexeme
    → groups.CreateGroup × List Lexeme
group_refreshed dynamic name kind x = grouped dynamic name kind x.0 (group_tables_of kind (drop 1 x.1))

abbrev pub group_named : Bool → GroupKind → List ℕ × List Lexeme → groups.CreateGroup × List Lexeme
group_named dynamic kind x = group_refreshed dynamic x.0 kind (refresh_of kind x.1)

abbrev pub group_kinded : Bool → GroupKind × List Lexeme → groups.CreateGroup × List Lexeme
group_kinded dynamic x = group_named dynamic x.0 (name_of (drop 2 x.1))

-- [ DYNAMIC ] kind CACHE GROUP name [ AUTOREFRESH .. ] FROM group tables
unfoldable pub group_of : List Lexeme → groups.CreateGroup × List Lexeme
group_of ls = group_kinded (begins k.Dynamic ls) (kind_of (past_word k.Dynamic ls))
