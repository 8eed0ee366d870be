use Rattle.std.proofs.Common.{arith, rules, ◌≡◌, ◌++◌, sym}
use Rattle.sql_phrases.specs.sql_query.specs.ChainSizes.{length_le-chained, most_le-chained}
use Rattle.sql_phrases.specs.sql_query.specs.Views.{chained}
use Rattle.sql_words.specs.Trees.{expression_words, link_words}
use Rattle.sql_words.proofs.ChainMeasures.{most_size-links}
use Rattle.sql_words.proofs.Chains.{chain_words}
use Rattle.sql_words.proofs.Puts.{as_ok, two_ok}
use Rattle.sql_words.proofs.expression.+put_expression.Goals as goal

pub put_expression-put_links-requires : goal.put_expression-put_links-requires
put_expression-put_links-requires t c =
    let first = c.in-Chain.first.value in
    let links = c.in-Chain.links.items in
    let whole : c.args.expression.now ≡ chained first links = search rules in
    (grind (arith, whole, most_size-links links, most_le-chained first links, length_le-chained first links), tt)

pub put_expression-returns-in_ok-put_expression-in-Chain :
    goal.put_expression-returns-in_ok-put_expression-in-Chain
put_expression-returns-in_ok-put_expression-in-Chain t c =
    let first = c.in-Chain.first.value in
    let links = c.in-Chain.links.items in
    let whole : chained first links ≡ c.args.expression.now = search rules in
    let words : expression_words first ++ link_words links ≡ expression_words c.args.expression.now =
    rw (← whole) (sym (chain_words first links)) in
    as_ok _ _ _ (expression_words first ++ link_words links) _
    (two_ok _ _ _ _ (expression_words first) (link_words links)
    (rw c.deref.ensures at c.in_ok-put_expression-in-Chain.ensures)
    (rw c.as_slice.ensures.value at c.put_links.ensures)) words
