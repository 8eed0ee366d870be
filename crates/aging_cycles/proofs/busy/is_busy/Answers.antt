use Rattle.std.proofs.Common.{◌∙◌, ap, sym}
use Rattle.aging_cycles.specs.Busy.{is_busy_at}
use Rattle.aging_cycles.proofs.StillHeld.{none_held}
use Rattle.aging_cycles.proofs.Walks.{none_in}
use Rattle.aging_cycles.proofs.busy.is_busy.Goals as goal

pub returns-then-is_empty : goal.returns-then-is_empty
returns-then-is_empty c = λ root here.
    sym (ap (λ sessions. is_busy_at sessions c.args.store.now root) (none_in c.args.sessions.now (sym c.is_empty.ensures ∙ c.if-is_empty.true)) ∙ none_held c.args.store.now root)
