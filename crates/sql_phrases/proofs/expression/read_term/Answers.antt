use Rattle.std.proofs.Common.{refl, sym, length, ◌≤◌}
use Rattle.sql_phrases.specs.Expressions.{at_star, multiplied, factor_of, term_of}
use Rattle.sql_phrases.proofs.Chains.{chain_start, chain_more, chain_ends, chain_shorter}
use Rattle.sql_phrases.proofs.Shrinking.{factor_shrinks}
use Rattle.sql_phrases.proofs.expression.read_term.Goals as goal

pub loop-rest-init : goal.loop-rest-init
loop-rest-init c =
    let l : length c.in_ok-term.rest ≤ length c.args.r = rw c.in_ok-term.ensures at (factor_shrinks c.args.r) in
    chain_start _ at_star multiplied factor_of c.args.r c.in_ok-term.term c.in_ok-term.rest c.in_ok-term.ensures l

pub loop-rest-smaller : goal.loop-rest-smaller
loop-rest-smaller c =
    chain_shorter _ _ at_star multiplied factor_of (term_of c.args.r) factor_shrinks refl c.in_ok-factor.factor c.loop-rest.rest c.skip.result c.in_ok-factor.behind c.loop-rest-test.ensures c.skip.ensures c.in_ok-factor.ensures

pub loop-rest-preserved : goal.loop-rest-preserved
loop-rest-preserved c =
    chain_more _ _ at_star multiplied factor_of (term_of c.args.r) factor_shrinks refl c.loop-rest.term _ c.in_ok-factor.factor c.loop-rest.rest c.skip.result c.in_ok-factor.behind c.loop-rest.invariant
    c.loop-rest-test.ensures c.skip.ensures c.in_ok-factor.ensures c.in_ok-term-2.ensures

pub returns : goal.returns
returns c = (chain_ends _ _ at_star multiplied factor_of (term_of c.args.r) c.loop-rest.term c.loop-rest.rest c.loop-rest.invariant (sym c.loop-rest-test.ensures))
