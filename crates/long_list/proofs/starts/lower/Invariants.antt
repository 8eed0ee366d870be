use Rattle.std.proofs.Common.{◌≡◌, ◌-◌, ◌++◌, take, drop, map}
use Rattle.long_list.proofs.starts.lower.Given as goal

abbrev pub invariant-loop-start : goal.invariant-loop-start
invariant-loop-start l =
    l.starts ≡ map (λ s. s - 1) (take l.start-index l.fn.starts) ++ drop l.start-index l.fn.starts
