use Rattle.std.proofs.Common.{refl}
use Rattle.backing_gate.proofs.memory_site.MemorySiteSite.tells_since.Goals as goal

pub returns-clause-looks : goal.returns-clause-looks
returns-clause-looks c = record { same = refl; past = λ k p x. x; kept = λ k p x. x }
