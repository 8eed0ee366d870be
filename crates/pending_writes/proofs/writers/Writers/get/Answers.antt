use Rattle.std.proofs.Common.{sym}
use Rattle.pending_writes.proofs.MapLaws.{inside, row_of, no_row}
use Rattle.pending_writes.proofs.writers.Writers.get.Goals as goal

pub at-requires : goal.at-requires
at-requires c = inside c.self.inside.entries c.args.self.now c.self.invariant c.self.view_is _ c.in-Ok.ensures.bound

pub returns-in-Ok : goal.returns-in-Ok
returns-in-Ok c = sym (row_of c.self.inside.entries c.args.self.now c.self.invariant c.self.view_is _ c.in-Ok.place c.at.result.now c.in-Ok.ensures.found c.at.ensures)

pub returns-in-Err : goal.returns-in-Err
returns-in-Err c = sym (no_row _ _ c.in-Err.field-0 c.in-Err.ensures.absent)
