use Rattle.std.proofs.Common.{◌*◌, ◌+◌, length}
use Rattle.sql_phrases.specs.Conditions.{at_and, at_or, both, either, predicate_of, conjunction_by, condition_by}
use Rattle.sql_phrases.proofs.Chains.{Chaining}
use Rattle.sql_phrases.proofs.conditions.+conditions.Given as goal

abbrev pub decreases-read_predicate : goal.decreases-read_predicate
decreases-read_predicate l = 3 * l.levels

abbrev pub decreases-read_conjunction_by : goal.decreases-read_conjunction_by
decreases-read_conjunction_by l = 3 * l.levels + 1

abbrev pub decreases-read_condition_by : goal.decreases-read_condition_by
decreases-read_condition_by l = 3 * l.levels + 2

-- what is read so far, and what the rest gives, are the whole
abbrev pub invariant-read_conjunction_by-loop-rest : goal.invariant-read_conjunction_by-loop-rest
invariant-read_conjunction_by-loop-rest l = Chaining at_and both (predicate_of l.levels) (conjunction_by (predicate_of l.levels) l.fn.r) l.conjunction l.rest

abbrev pub decreases-read_conjunction_by-loop-rest : goal.decreases-read_conjunction_by-loop-rest
decreases-read_conjunction_by-loop-rest l = length l.rest

-- what is read so far, and what the rest gives, are the whole
abbrev pub invariant-read_condition_by-loop-rest : goal.invariant-read_condition_by-loop-rest
invariant-read_condition_by-loop-rest l = Chaining at_or either (conjunction_by (predicate_of l.levels)) (condition_by (predicate_of l.levels) l.fn.r) l.condition l.rest

abbrev pub decreases-read_condition_by-loop-rest : goal.decreases-read_condition_by-loop-rest
decreases-read_condition_by-loop-rest l = length l.rest
