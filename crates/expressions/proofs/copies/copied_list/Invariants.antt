-- The copies so far.
use Rattle.std.proofs.Common.{◌≡◌, take}
use Rattle.expressions.proofs.copies.copied_list.Given as goal

abbrev pub invariant-loop-expr : goal.invariant-loop-expr
invariant-loop-expr l = l.copy.items ≡ take l.expr-index l.list
