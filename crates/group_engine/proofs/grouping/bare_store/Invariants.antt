use Rattle.stored_tier.specs.Grouping.{IsPartFor}
use Rattle.group_engine.proofs.grouping.bare_store.Given as goal

abbrev pub invariant-loop-number : goal.invariant-loop-number
invariant-loop-number l = IsPartFor l.schema l.tree l.number l.store
