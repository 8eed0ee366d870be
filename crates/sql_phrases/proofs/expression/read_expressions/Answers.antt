use Rattle.std.proofs.Common.{refl, sym, length, ◌≤◌}
use Rattle.sql_phrases.specs.Reading.{at_comma, with_last}
use Rattle.sql_phrases.specs.Expressions.{expression_of, expressions_of}
use Rattle.sql_phrases.proofs.Chains.{chain_first, chain_more, chain_ends, chain_shorter}
use Rattle.sql_phrases.proofs.Shrinking.{expression_shrinks}
use Rattle.sql_phrases.proofs.expression.read_expressions.Goals as goal

pub loop-rest-init : goal.loop-rest-init
unfolding expressions_of
loop-rest-init c =
    let l : length c.in_ok-first.rest ≤ length c.args.r = rw c.in_ok-first.ensures at (expression_shrinks c.args.r) in
    chain_first _ at_comma with_last expression_of c.args.r c.in_ok-first.first c.push.new.self.items c.in_ok-first.rest (rw c.new-expressions.ensures.items at c.in_ok-push.ensures.items) c.in_ok-first.ensures l

pub loop-rest-smaller : goal.loop-rest-smaller
loop-rest-smaller c =
    chain_shorter _ _ at_comma with_last expression_of (expressions_of c.args.r) expression_shrinks refl c.in_ok-expression.expression c.loop-rest.rest c.skip.result c.in_ok-expression.behind c.loop-rest-test.ensures c.skip.ensures c.in_ok-expression.ensures

pub loop-rest-preserved : goal.loop-rest-preserved
loop-rest-preserved c =
    chain_more _ _ at_comma with_last expression_of (expressions_of c.args.r) expression_shrinks refl c.loop-rest.expressions.items _ c.in_ok-expression.expression c.loop-rest.rest c.skip.result c.in_ok-expression.behind c.loop-rest.invariant
    c.loop-rest-test.ensures c.skip.ensures c.in_ok-expression.ensures c.in_ok-push-2.ensures.items

pub returns : goal.returns
returns c = rw c.from_vec.ensures (chain_ends _ _ at_comma with_last expression_of (expressions_of c.args.r) c.loop-rest.expressions.items c.loop-rest.rest c.loop-rest.invariant (sym c.loop-rest-test.ensures))
