-- The copies so far.
use Rattle.std.proofs.Common.{take}
use Rattle.changed_sets.specs.Alike.{AreAlike}
use Rattle.changed_sets.proofs.copies.copied_children.Given as goal

abbrev pub invariant-loop-child : goal.invariant-loop-child
invariant-loop-child l = AreAlike (take l.child-index l.children) l.copy.items
