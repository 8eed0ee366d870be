use Rattle.std.proofs.Common.{take}
use Rattle.outside.specs.Bank.{HasAll}
use Rattle.backing_gate.proofs.bank.MemoryBank.first_missing.Given as goal

abbrev pub invariant-loop-ticket : goal.invariant-loop-ticket
invariant-loop-ticket l = HasAll (take l.ticket-index l.tickets) l.self
