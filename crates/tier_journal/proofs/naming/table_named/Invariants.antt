use Rattle.tier_journal.proofs.ReadLaws.{NoneBefore}
use Rattle.tier_journal.proofs.naming.table_named.Given as goal

abbrev pub invariant-loop-place : goal.invariant-loop-place
invariant-loop-place l = NoneBefore l.schema l.name l.place
