use Rattle.std.proofs.Common.{refl, sym}
use Rattle.sql_phrases.specs.Reading.{at_comma}
use Rattle.sql_phrases.specs.Tables.{with_element, element_of, elements_of}
use Rattle.sql_phrases.proofs.Chains.{chain_more, chain_ends, chain_shorter}
use Rattle.sql_phrases.proofs.Shrinking.{element_shrinks}
use Rattle.sql_phrases.proofs.tables.read_elements.Goals as goal

pub loop-rest-smaller : goal.loop-rest-smaller
loop-rest-smaller c =
    chain_shorter _ _ at_comma with_element element_of (elements_of c.args.name (c.args.first, c.args.r)) element_shrinks refl c.in_ok-element.element c.loop-rest.rest c.skip.result c.in_ok-element.behind
    c.loop-rest-test.ensures c.skip.ensures c.in_ok-element.ensures

pub loop-rest-preserved : goal.loop-rest-preserved
loop-rest-preserved c =
    chain_more _ _ at_comma with_element element_of (elements_of c.args.name (c.args.first, c.args.r)) element_shrinks refl c.loop-rest.table _ c.in_ok-element.element c.loop-rest.rest c.skip.result c.in_ok-element.behind c.loop-rest.invariant
    c.loop-rest-test.ensures c.skip.ensures c.in_ok-element.ensures c.in_ok-table.ensures

pub returns : goal.returns
returns c = chain_ends _ _ at_comma with_element element_of (elements_of c.args.name (c.args.first, c.args.r)) c.loop-rest.table c.loop-rest.rest c.loop-rest.invariant (sym c.loop-rest-test.ensures)
