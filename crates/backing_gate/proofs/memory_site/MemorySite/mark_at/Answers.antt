use Rattle.std.proofs.Common.{◌≤◌, length, sym, subst}
use Rattle.memory_disk.specs.Possible.{moment_of as disk_moment}
use Rattle.backing_gate.specs.declared.mark.Mark.{Mark}
use Rattle.backing_gate.proofs.CrashLaws.{then_calls, then_entries}
use Rattle.backing_gate.proofs.memory_site.MemorySite.mark_at.Goals as goal

pub returns-clause-calls : goal.returns-clause-calls
returns-clause-calls c =
    subst (λ (m : Mark). m.calls ≤ disk_moment c.args.self.now.disk) (sym c.least_from.ensures) (then_calls c.args.self.now c.args.moment)

pub returns-clause-entries : goal.returns-clause-entries
returns-clause-entries c =
    subst (λ (m : Mark). m.entries ≤ length c.args.self.now.history) (sym c.least_from.ensures) (then_entries c.args.self.now c.args.moment)
