use Rattle.std.proofs.Common.{refl, sym, length, ◌≤◌}
use Rattle.sql_phrases.specs.Expressions.{at_sign, added, term_of, expression_of}
use Rattle.sql_phrases.proofs.Chains.{chain_start, chain_more, chain_ends, chain_shorter}
use Rattle.sql_phrases.proofs.Shrinking.{term_shrinks}
use Rattle.sql_phrases.proofs.expression.read_expression.Goals as goal

pub loop-rest-init : goal.loop-rest-init
unfolding expression_of
loop-rest-init c =
    let l : length c.in_ok-expression.rest ≤ length c.args.r = rw c.in_ok-expression.ensures at (term_shrinks c.args.r) in
    chain_start _ at_sign added term_of c.args.r c.in_ok-expression.expression c.in_ok-expression.rest c.in_ok-expression.ensures l

pub loop-rest-smaller : goal.loop-rest-smaller
loop-rest-smaller c =
    chain_shorter _ _ at_sign added term_of (expression_of c.args.r) term_shrinks refl c.in_ok-term.term c.loop-rest.rest c.skip.result c.in_ok-term.behind c.loop-rest-test.ensures c.skip.ensures c.in_ok-term.ensures

pub loop-rest-preserved : goal.loop-rest-preserved
loop-rest-preserved c =
    chain_more _ _ at_sign added term_of (expression_of c.args.r) term_shrinks refl c.loop-rest.expression _ c.in_ok-term.term c.loop-rest.rest c.skip.result c.in_ok-term.behind c.loop-rest.invariant
    c.loop-rest-test.ensures c.skip.ensures c.in_ok-term.ensures (rw (c.sign_of-sign.ensures, c.first_kind.ensures) at c.in_ok-expression-2.ensures)

pub returns : goal.returns
returns c = (chain_ends _ _ at_sign added term_of (expression_of c.args.r) c.loop-rest.expression c.loop-rest.rest c.loop-rest.invariant (sym c.loop-rest-test.ensures))
