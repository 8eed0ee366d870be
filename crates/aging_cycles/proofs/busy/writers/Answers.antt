use Rattle.std.proofs.Common.{◌&&◌, ◌∙◌, ap, not, sym}
use Rattle.aging_cycles.specs.Busy.{is_busy_at}
use Rattle.aging_cycles.proofs.StillHeld.{none_held}
use Rattle.aging_cycles.proofs.busy.writers.Goals as goal

pub returns-then-is_read_only : goal.returns-then-is_read_only
returns-then-is_read_only c = λ s root.
    none_held s root ∙ sym (ap (λ b. not b && is_busy_at c.args.sessions.now s root) (sym c.is_read_only.ensures ∙ c.if-is_read_only.true))
