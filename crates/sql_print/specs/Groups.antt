-- The words of cache groups (this project's rule).
use Rattle.std.specs.Prelude.{ℕ, Bool, List, [], ◌∷◌, ◌++◌, codes, Option, Some, None, if◌then◌else◌}
use Rattle.std.specs.Fmt.{decimal}
use Rattle.sql_subset.specs.declared.stmt.AgingClause.{AgingClause}
use Rattle.sql_subset.specs.declared.stmt.AgingRule.{AgingRule}
use Rattle.sql_subset.specs.declared.stmt.AgingRule.TheVariants as rules
use Rattle.sql_subset.specs.declared.stmt.Autorefresh as autorefreshes
use Rattle.sql_subset.specs.declared.stmt.CreateGroup as groups
use Rattle.sql_subset.specs.declared.stmt.GroupKind.{GroupKind}
use Rattle.sql_subset.specs.declared.stmt.GroupKind.TheVariants.{ReadOnly, AsynchronousWritethrough, SynchronousWritethrough, UserManaged}
use Rattle.sql_subset.specs.declared.stmt.GroupTable.{GroupTable}
use Rattle.sql_subset.specs.declared.stmt.RefreshMode.{RefreshMode}
use Rattle.sql_subset.specs.declared.stmt.RefreshMode.TheVariants as modes
use Rattle.sql_subset.specs.declared.stmt.RefreshState.{RefreshState}
use Rattle.sql_subset.specs.declared.stmt.RefreshState.TheVariants as states
use Rattle.sql_words.specs.Words.{Word, where_so, listed, name_words}
use Rattle.sql_words.specs.Trees.{filter_words}
use Rattle.sql_words.specs.Tables.{table_words}

abbrev pub mode_word : RefreshMode → Word
mode_word modes.Incremental = codes "INCREMENTAL"
mode_word modes.Full = codes "FULL"

abbrev pub state_word : RefreshState → Word
state_word states.On = codes "ON"
state_word states.Off = codes "OFF"
state_word states.Paused = codes "PAUSED"

-- INTERVAL n MILLISECONDS
abbrev pub interval_words : ℕ → List Word
interval_words interval = codes "INTERVAL" ∷ decimal interval ∷ codes "MILLISECONDS" ∷ []

-- [ AUTOREFRESH .. ], with each of its parts
abbrev pub refresh_words : Option autorefreshes.Autorefresh → List Word
refresh_words None = []
refresh_words (Some refresh) =
    codes "AUTOREFRESH" ∷ codes "MODE" ∷ mode_word refresh.mode ∷ interval_words refresh.interval
    ++ codes "STATE" ∷ state_word refresh.state ∷ []

abbrev pub kind_words : GroupKind → List Word
kind_words ReadOnly = codes "READONLY" ∷ []
kind_words AsynchronousWritethrough = codes "ASYNCHRONOUS" ∷ codes "WRITETHROUGH" ∷ []
kind_words SynchronousWritethrough = codes "SYNCHRONOUS" ∷ codes "WRITETHROUGH" ∷ []
kind_words UserManaged = codes "USERMANAGED" ∷ []

-- n SECONDS
abbrev pub span_words : ℕ → List Word
span_words seconds = decimal seconds ∷ codes "SECONDS" ∷ []

-- LRU | USE column LIFETIME n SECONDS CYCLE n SECONDS
abbrev pub rule_words : AgingRule → List Word
rule_words rules.LastUse = codes "LRU" ∷ []
rule_words (rules.Time aging) =
    codes "USE" ∷ aging.column ∷ codes "LIFETIME" ∷ span_words aging.lifetime ++ codes "CYCLE" ∷ span_words aging.cycle

abbrev pub switch_word : Bool → Word
switch_word on = if on then codes "ON" else codes "OFF"

-- [ AGING rule ON | OFF ]
abbrev pub aging_words : Option AgingClause → List Word
aging_words None = []
aging_words (Some aging) = codes "AGING" ∷ rule_words aging.rule ++ switch_word aging.on ∷ []

-- table [ AGING .. ] [ WHERE .. ]
abbrev pub group_table_words : GroupTable → List Word
group_table_words t = table_words t.table t.attribute ++ aging_words t.aging ++ filter_words t.filter

-- [ DYNAMIC ] kind CACHE GROUP name [ AUTOREFRESH .. ]
abbrev pub head_words : groups.CreateGroup → List Word
head_words group =
    where_so group.dynamic (codes "DYNAMIC" ∷ []) ++ kind_words group.kind
    ++ codes "CACHE" ∷ codes "GROUP" ∷ name_words group.name ++ refresh_words group.autorefresh

-- [ DYNAMIC ] kind CACHE GROUP name [ AUTOREFRESH .. ] FROM tables
abbrev pub group_words : groups.CreateGroup → List Word
group_words group = head_words group ++ codes "FROM" ∷ listed group_table_words group.tables
