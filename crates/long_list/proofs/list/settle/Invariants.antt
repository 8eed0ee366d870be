-- Both parts together stay, and the tail gets shorter.
use Rattle.std.proofs.Common.{◌≡◌, ◌++◌, length}
use Rattle.long_list.proofs.list.settle.Given as goal

abbrev pub invariant-loop-tail : goal.invariant-loop-tail
invariant-loop-tail g l = l.front ++ l.tail ≡ l.fn.front ++ l.fn.tail

abbrev pub decreases-loop-tail : goal.decreases-loop-tail
decreases-loop-tail g l = length l.tail
