-- Of the rows so far those that the WHERE selects and that refer to one of the parents.
use Rattle.std.proofs.Common.{◌&&◌, option_copied}
use Rattle.instances.specs.Collecting.{Gathers}
use Rattle.instances.specs.Views.{refers_to_one, selects}
use Rattle.stored_tier.proofs.gathering.referring_rows.Given as goal

abbrev pub invariant-loop-place : goal.invariant-loop-place
invariant-loop-place l = Gathers (λ row. selects l.fn.filter row && refers_to_one l.fn.parents (option_copied l.fn.def) row) l.fn.rows l.place l.out
