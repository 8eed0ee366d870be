use Rattle.std.proofs.Common.{◌≡◌, take}
use Rattle.backing_gate.proofs.bank.MemoryBank.following.Given as goal

abbrev pub invariant-loop-entry : goal.invariant-loop-entry
invariant-loop-entry l = l.bank ≡ take l.entry-index l.entries
