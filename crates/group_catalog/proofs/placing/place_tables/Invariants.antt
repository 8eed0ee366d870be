-- The tables so far are placed, and those that are left may be unknown.
use Rattle.std.proofs.Common.{◌≡◌, ◌++◌, [], drop, take}
use Rattle.std.specs.List.{flat_map}
use Rattle.sql_subset.specs.declared.stmt.GroupTable.{GroupTable}
use Rattle.cache_tier.specs.Definitions.{first_unknown, names_in, placed_from}
use Rattle.group_catalog.specs.Placed.{tables_seen}
use Rattle.group_catalog.proofs.placing.place_tables.Given as goal

abbrev pub invariant-loop-i : goal.invariant-loop-i
invariant-loop-i l = record {
  known : first_unknown l.schema (flat_map (λ (g : GroupTable). names_in g.table) l.tables) ≡ first_unknown l.schema (flat_map (λ (g : GroupTable). names_in g.table) (drop l.i l.tables));
  placed : placed_from l.schema [] l.tables ≡ tables_seen l.placed.items ++ placed_from l.schema (take l.i l.tables) (drop l.i l.tables);
}
