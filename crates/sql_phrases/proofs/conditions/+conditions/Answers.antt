use Rattle.std.proofs.Common.{refl, sym, length, ◌≤◌}
use Rattle.sql_phrases.specs.Conditions.{at_and, at_or, both, either, predicate_of, conjunction_by, condition_by}
use Rattle.sql_phrases.proofs.Chains.{chain_start, chain_more, chain_ends, chain_shorter}
use Rattle.sql_phrases.proofs.Predicates.{predicate_last, predicate_open, predicate_not, predicate_test}
use Rattle.sql_phrases.proofs.Shrinking.{predicate_shrinks, conjunction_shrinks}
use Rattle.sql_phrases.proofs.conditions.+conditions.Goals as goal

pub read_conjunction_by-loop-rest-init : goal.read_conjunction_by-loop-rest-init
unfolding conjunction_by
read_conjunction_by-loop-rest-init n c =
    let l : length c.in_ok-conjunction.rest ≤ length c.args.r = rw c.in_ok-conjunction.ensures at (predicate_shrinks c.args.levels c.args.r) in
    chain_start _ at_and both (predicate_of c.args.levels) c.args.r c.in_ok-conjunction.conjunction c.in_ok-conjunction.rest c.in_ok-conjunction.ensures l

pub read_conjunction_by-loop-rest-smaller : goal.read_conjunction_by-loop-rest-smaller
read_conjunction_by-loop-rest-smaller n c =
    chain_shorter _ _ at_and both (predicate_of c.args.levels) (conjunction_by (predicate_of c.args.levels) c.args.r) (predicate_shrinks c.args.levels) refl c.in_ok-predicate.predicate c.loop-rest.rest c.skip.result c.in_ok-predicate.behind c.loop-rest-test.ensures c.skip.ensures c.in_ok-predicate.ensures

pub read_conjunction_by-loop-rest-preserved : goal.read_conjunction_by-loop-rest-preserved
read_conjunction_by-loop-rest-preserved n c =
    chain_more _ _ at_and both (predicate_of c.args.levels) (conjunction_by (predicate_of c.args.levels) c.args.r) (predicate_shrinks c.args.levels) refl c.loop-rest.conjunction _ c.in_ok-predicate.predicate c.loop-rest.rest c.skip.result c.in_ok-predicate.behind c.loop-rest.invariant
    c.loop-rest-test.ensures c.skip.ensures c.in_ok-predicate.ensures c.in_ok-conjunction-2.ensures

pub read_conjunction_by-returns : goal.read_conjunction_by-returns
read_conjunction_by-returns n c = chain_ends _ _ at_and both (predicate_of c.args.levels) (conjunction_by (predicate_of c.args.levels) c.args.r) c.loop-rest.conjunction c.loop-rest.rest c.loop-rest.invariant (sym c.loop-rest-test.ensures)

pub read_condition_by-loop-rest-init : goal.read_condition_by-loop-rest-init
unfolding condition_by
read_condition_by-loop-rest-init n c =
    let l : length c.in_ok-condition.rest ≤ length c.args.r = rw c.in_ok-condition.ensures at (conjunction_shrinks c.args.levels c.args.r) in
    chain_start _ at_or either (conjunction_by (predicate_of c.args.levels)) c.args.r c.in_ok-condition.condition c.in_ok-condition.rest c.in_ok-condition.ensures l

pub read_condition_by-loop-rest-smaller : goal.read_condition_by-loop-rest-smaller
read_condition_by-loop-rest-smaller n c =
    chain_shorter _ _ at_or either (conjunction_by (predicate_of c.args.levels)) (condition_by (predicate_of c.args.levels) c.args.r) (conjunction_shrinks c.args.levels) refl c.in_ok-conjunction.conjunction c.loop-rest.rest c.skip.result c.in_ok-conjunction.behind c.loop-rest-test.ensures c.skip.ensures c.in_ok-conjunction.ensures

pub read_condition_by-loop-rest-preserved : goal.read_condition_by-loop-rest-preserved
read_condition_by-loop-rest-preserved n c =
    chain_more _ _ at_or either (conjunction_by (predicate_of c.args.levels)) (condition_by (predicate_of c.args.levels) c.args.r) (conjunction_shrinks c.args.levels) refl c.loop-rest.condition _ c.in_ok-conjunction.conjunction c.loop-rest.rest c.skip.result c.in_ok-conjunction.behind c.loop-rest.invariant
    c.loop-rest-test.ensures c.skip.ensures c.in_ok-conjunction.ensures c.in_ok-condition-2.ensures

pub read_condition_by-returns : goal.read_condition_by-returns
read_condition_by-returns n c = chain_ends _ _ at_or either (conjunction_by (predicate_of c.args.levels)) (condition_by (predicate_of c.args.levels) c.args.r) c.loop-rest.condition c.loop-rest.rest c.loop-rest.invariant (sym c.loop-rest-test.ensures)

pub read_predicate-returns-then-begins : goal.read_predicate-returns-then-begins
read_predicate-returns-then-begins n c =
    rw c.skip-then-begins.ensures (predicate_open c.args.levels c.args.r c.in_ok-condition.condition c.in_ok-condition.rest c.if-levels-eq0.false c.if-begins.ensures (rw c.skip.ensures at c.in_ok-condition.ensures))

pub read_predicate-returns-then-begins-2 : goal.read_predicate-returns-then-begins-2
read_predicate-returns-then-begins-2 n c =
    rw c.in_ok-not.ensures (predicate_not c.args.levels c.args.r c.in_ok-condition-2.condition c.in_ok-condition-2.rest c.if-levels-eq0.false c.if-begins.ensures c.if-begins-2.ensures (rw c.skip-then-begins-2.ensures at c.in_ok-condition-2.ensures))

pub read_predicate-returns : goal.read_predicate-returns
read_predicate-returns n c = rw (predicate_test c.args.levels c.args.r c.if-levels-eq0.false c.if-begins.ensures c.if-begins-2.ensures) c.read_test-2.ensures

pub read_predicate-returns-then-levels-eq0 : goal.read_predicate-returns-then-levels-eq0
read_predicate-returns-then-levels-eq0 n c = rw (predicate_last c.args.levels c.args.r c.if-levels-eq0.true) c.read_test.ensures
