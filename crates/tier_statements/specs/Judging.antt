-- Tables whose rows can be counted with a session's own rows over them.

use Rattle.std.specs.Prelude.{◌<◌, ◌^◌}
use Rattle.std.specs.FinMap.{len}
use Rattle.tier_base.specs.declared.number.TableId.{TableId}
use Rattle.table_state.specs.Tables.{TableState, table_at}

-- each table has fewer than 2^62 rows
abbrev pub AreSmall : TableState → Type 0
AreSmall s = (t : TableId) → len (table_at s t) < 2 ^ 62
