-- Of the rows so far those that come.
use Rattle.group_catalog.specs.Kept.{group_seen}
use Rattle.stored_tier.specs.Choosing.{Chooses}
use Rattle.stored_tier.specs.Filling.{comes_anew}
use Rattle.stored_tier.proofs.filling.coming_anew.Given as goal

abbrev pub invariant-loop-place : goal.invariant-loop-place
invariant-loop-place l = Chooses (comes_anew (group_seen l.group) l.old l.hidden.table) l.rows l.place l.out
