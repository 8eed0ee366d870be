use Rattle.std.proofs.Common.{[], inl, ap, ◌∙◌}
use Rattle.backing_gate.specs.Memory.{MemoryState}
use Rattle.backing_gate.proofs.TicketLaws.{same}
use Rattle.backing_gate.proofs.memory_site.MemorySite.passed_as.Goals as goal

pub returns-in-Some-Failed-Before-clause-own : goal.returns-in-Some-Failed-Before-clause-own
returns-in-Some-Failed-Before-clause-own c = record {
  ops = [];
  passes = inl (ap (λ (m : MemoryState). m.history) c.count_failure.ensures.counted ∙ same c.args.self.now.history);
}
