-- The tables so far have columns of types that there are.
use Rattle.std.proofs.Common.{◌≡◌, drop}
use Rattle.cache_tier.specs.Definitions.{column_type_fault, first_fault}
use Rattle.group_catalog.specs.Placed.{tables_seen}
use Rattle.group_catalog.proofs.defining.judge_column_types.Given as goal

abbrev pub invariant-loop-table : goal.invariant-loop-table
invariant-loop-table l = first_fault column_type_fault (tables_seen l.tables) ≡ first_fault column_type_fault (tables_seen (drop l.table-index l.tables))
