-- The columns so far are those of the declarations so far.
use Rattle.std.proofs.Common.{◌≡◌, map, take}
use Rattle.cache_tier.specs.Definitions.{column_declared}
use Rattle.group_catalog.proofs.naming.declared_columns.Given as goal

abbrev pub invariant-loop-column : goal.invariant-loop-column
invariant-loop-column l = l.columns.items ≡ map column_declared (take l.column-index l.declared)
