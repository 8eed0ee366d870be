use Rattle.std.proofs.Common.{◌≡◌, drop}
use Rattle.memory_disk.specs.Picking.{certain_chosen, choose_calls}
use Rattle.memory_disk.proofs.images.left_of.Given as goal

abbrev pub invariant-loop-call : goal.invariant-loop-call
invariant-loop-call l = choose_calls l.slot l.pick (drop l.call-index l.calls) l.trace ≡ choose_calls l.slot l.pick l.calls (certain_chosen l.base)
