-- The values so far tie, so those that are left decide. They get fewer.
use Rattle.std.proofs.Common.{◌≡◌, length}
use Rattle.evaluator.specs.Queries.{by_values}
use Rattle.evaluator.proofs.ordering.order_by.Given as goal

abbrev pub invariant-loop-way : goal.invariant-loop-way
invariant-loop-way l = by_values l.descending l.a l.b ≡ by_values l.ways l.these l.those

abbrev pub decreases-loop-way : goal.decreases-loop-way
decreases-loop-way l = length l.ways
