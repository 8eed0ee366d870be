-- The column of an AGING clause that a table doesn't have.

use Rattle.std.specs.Prelude.{ℕ, List, Option, None, if◌then◌else◌}
use Rattle.row_types.specs.declared.column.Column.{Column}
use Rattle.sql_subset.specs.declared.stmt.AgingClause.{AgingClause}
use Rattle.cache_tier.specs.Definitions.{aging_column, is_known_column}

-- its name, where there is no such column
abbrev pub refused_column : List Column → Option AgingClause → Option (List ℕ)
refused_column columns aging = if is_known_column columns (aging_column aging) then None else aging_column aging
