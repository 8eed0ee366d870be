use Rattle.std.proofs.Common.{sym, subst}
use Rattle.outside.specs.Calls.{Certain}
use Rattle.backing_gate.specs.Memory.{MemoryState, held_of, possible_of, site_state}
use Rattle.backing_gate.proofs.CrashLaws.{fresh_certain}
use Rattle.backing_gate.proofs.memory_site.MemorySite.of.Goals as goal

pub returns-clause-certain : goal.returns-clause-certain
returns-clause-certain c = λ certain.
    subst (λ (s : MemoryState). Certain site_state possible_of s (held_of s)) (sym c.joined.ensures) (fresh_certain c.args.disk c.args.bank certain)
