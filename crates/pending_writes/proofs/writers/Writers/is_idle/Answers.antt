use Rattle.std.proofs.Common.{sym}
use Rattle.pending_writes.proofs.NoteLaws.{idle_at}
use Rattle.pending_writes.proofs.MapLaws.{entries_of}
use Rattle.pending_writes.proofs.writers.Writers.is_idle.Goals as goal

pub returns-in-Some : goal.returns-in-Some
returns-in-Some c = idle_at c.args.first.0 _ _ c.args.place c.in-Some.entry.now c.waits.result (sym (entries_of c.self.inside.entries c.args.self.now c.self.invariant c.self.view_is)) (sym c.in-Some.ensures) c.waits.ensures
