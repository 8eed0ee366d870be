-- Of the rows so far those that the WHERE selects.
use Rattle.instances.specs.Collecting.{Gathers}
use Rattle.instances.specs.Views.{selects}
use Rattle.instances.proofs.collecting.selected_rows.Given as goal

abbrev pub invariant-loop-place : goal.invariant-loop-place
invariant-loop-place l = Gathers (selects l.filter) l.rows l.place l.out
