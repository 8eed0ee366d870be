-- Of the rows so far those that are taken.
use Rattle.group_catalog.specs.Kept.{group_seen}
use Rattle.stored_tier.specs.Choosing.{Chooses}
use Rattle.group_engine.specs.Gaining.{is_taken}
use Rattle.group_engine.proofs.gaining.taken_among.Given as goal

abbrev pub invariant-loop-place : goal.invariant-loop-place
invariant-loop-place l = Chooses (is_taken l.refreshes l.which (group_seen l.group) l.store l.hidden.table) l.rows l.place l.out
