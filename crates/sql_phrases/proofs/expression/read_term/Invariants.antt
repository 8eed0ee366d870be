use Rattle.std.proofs.Common.{length}
use Rattle.sql_phrases.specs.Expressions.{at_star, multiplied, factor_of, term_of}
use Rattle.sql_phrases.proofs.Chains.{Chaining}
use Rattle.sql_phrases.proofs.expression.read_term.Given as goal

-- what is read so far, and what the rest gives, are the whole
abbrev pub invariant-loop-rest : goal.invariant-loop-rest
invariant-loop-rest l = Chaining at_star multiplied factor_of (term_of l.fn.r) l.term l.rest

abbrev pub decreases-loop-rest : goal.decreases-loop-rest
decreases-loop-rest l = length l.rest
