use Rattle.std.proofs.Common.{length}
use Rattle.sql_phrases.specs.Reading.{at_comma, with_last}
use Rattle.sql_phrases.specs.Writes.{assignment_of, assignments_of}
use Rattle.sql_phrases.proofs.Chains.{Chaining}
use Rattle.sql_phrases.proofs.writes.read_assignments.Given as goal

-- the list so far, and what the rest gives, are the whole
abbrev pub invariant-loop-rest : goal.invariant-loop-rest
invariant-loop-rest l = Chaining at_comma with_last assignment_of (assignments_of l.fn.r) l.assignments.items l.rest

abbrev pub decreases-loop-rest : goal.decreases-loop-rest
decreases-loop-rest l = length l.rest
