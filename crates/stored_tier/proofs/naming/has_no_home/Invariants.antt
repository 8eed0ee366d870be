use Rattle.stored_tier.specs.Naming.{HasNoHome}
use Rattle.stored_tier.proofs.naming.has_no_home.Given as goal

abbrev pub invariant-loop-number : goal.invariant-loop-number
invariant-loop-number l = HasNoHome l.directory l.first l.number
