use Rattle.std.proofs.Common.{subst, sym}
use Rattle.std.specs.Prelude.{Err}
use Rattle.reopening.specs.Starting.{IsOfCall, Refills}
use Rattle.reopening.proofs.OpeningLaws.{of_call, refill_stopped}
use Rattle.reopening.proofs.opening.refill.Goals as goal

pub returns-in-Err-clause-refills : goal.returns-in-Err-clause-refills
returns-in-Err-clause-refills g c =
    subst (λ e. Refills c.args.tier (g.P.Disk.state c.args.site.now) (g.P.Disk.state c.reload.new.site) (Err e)) (sym c.error_of.ensures) (refill_stopped c.args.tier c.reload.new.tier (g.P.Disk.state c.args.site.now) (g.P.Disk.state c.reload.new.site) c.in-Err.error c.in-Err.ensures.performs)

pub returns-in-Err-clause-call : goal.returns-in-Err-clause-call
returns-in-Err-clause-call g c = subst IsOfCall (sym c.error_of.ensures) (of_call c.in-Err.error)
