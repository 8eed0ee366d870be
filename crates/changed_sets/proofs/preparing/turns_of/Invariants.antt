-- The turns so far.
use Rattle.std.proofs.Common.{take}
use Rattle.group_catalog.specs.Kept.{group_seen}
use Rattle.changed_sets.specs.Turning.{AreTurns}
use Rattle.changed_sets.proofs.preparing.turns_of.Given as goal

abbrev pub invariant-loop-touched : goal.invariant-loop-touched
invariant-loop-touched l = AreTurns (group_seen l.group) l.store l.hidden.table l.gains (take l.touched-index l.told) l.turns.items
