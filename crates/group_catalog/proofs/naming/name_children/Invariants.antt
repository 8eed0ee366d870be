-- The tables so far have their children, and what is to be judged of their conditions.
use Rattle.std.proofs.Common.{◌≡◌, ◌||◌, drop, take}
use Rattle.std.specs.List.{list_any}
use Rattle.cache_tier.specs.Definitions.{AreChildrenOf, column_fault, first_fault, has_unheld_filter, has_unsound_filter}
use Rattle.group_catalog.specs.Placed.{tables_seen}
use Rattle.group_catalog.proofs.naming.name_children.Given as goal

abbrev pub invariant-loop-table : goal.invariant-loop-table
invariant-loop-table l = record {
  told : first_fault column_fault (tables_seen l.tables) ≡ first_fault column_fault (tables_seen (drop l.table-index l.tables));
  children : AreChildrenOf (tables_seen (take l.table-index l.tables)) l.children.items;
  unsound : l.judged.unsound ≡ l.fn.judged.unsound || list_any has_unsound_filter (tables_seen (take l.table-index l.tables));
  unheld : l.judged.unheld ≡ l.fn.judged.unheld || list_any has_unheld_filter (tables_seen (take l.table-index l.tables));
}
