-- The children so far, and those among the tables that are left.
use Rattle.std.proofs.Common.{◌≡◌, ◌++◌, drop}
use Rattle.evaluator.specs.Cascades.{children_from}
use Rattle.evaluator.proofs.cascade.children_of.Given as goal

abbrev pub invariant-loop-def : goal.invariant-loop-def
invariant-loop-def l = record {
  counts : l.place ≡ l.def-index;
  so_far : children_from l.fn.parent 0 l.fn.defs ≡ l.children.items ++ children_from l.fn.parent l.def-index (drop l.def-index l.fn.defs);
}
