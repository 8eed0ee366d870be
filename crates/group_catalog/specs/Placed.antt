-- Tables of a definition with the backing tables of their names, as they are lent.

use Rattle.std.specs.Prelude.{List, map}
use Rattle.cache_tier.specs.Definitions.{Placed}
use Rattle.group_catalog.specs.declared.placing.PlacedTable.{PlacedTable}

-- what is lent, as a value
abbrev pub table_seen : PlacedTable → Placed
table_seen p = record { it = p.it.now; id = p.id; def = p.def.now; before = p.before.now }

-- the same of several
abbrev pub tables_seen : List PlacedTable → List Placed
tables_seen tables = map table_seen tables
