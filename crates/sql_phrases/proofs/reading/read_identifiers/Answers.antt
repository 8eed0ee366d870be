use Rattle.std.proofs.Common.{ℕ, List, subst, refl, sym, length, ◌≤◌}
use Rattle.sql_grammar.specs.sql_tokens.specs.Lexing.{Lexeme}
use Rattle.sql_phrases.specs.Reading.{at_comma, with_last, identifier_of, identifiers_of}
use Rattle.sql_phrases.proofs.Chains.{chain_first, chain_more, chain_ends, chain_shorter}
use Rattle.sql_phrases.proofs.Shrinking.{identifier_shrinks}
use Rattle.sql_phrases.proofs.reading.read_identifiers.Goals as goal

pub loop-rest-init : goal.loop-rest-init
loop-rest-init c =
    let l : length c.in_ok-first.rest ≤ length c.args.r = subst (λ (x : List ℕ × List Lexeme). length x.1 ≤ length c.args.r) c.in_ok-first.ensures (identifier_shrinks c.args.r) in
    chain_first _ at_comma with_last identifier_of c.args.r c.in_ok-first.first c.push.new.self.items c.in_ok-first.rest (rw c.new-names.ensures.items at c.in_ok-push.ensures.items) c.in_ok-first.ensures l

pub loop-rest-smaller : goal.loop-rest-smaller
loop-rest-smaller c =
    chain_shorter _ _ at_comma with_last identifier_of (identifiers_of c.args.r) identifier_shrinks refl c.in_ok-name.name c.loop-rest.rest c.skip.result c.in_ok-name.behind c.loop-rest-test.ensures c.skip.ensures c.in_ok-name.ensures

pub loop-rest-preserved : goal.loop-rest-preserved
loop-rest-preserved c =
    chain_more _ _ at_comma with_last identifier_of (identifiers_of c.args.r) identifier_shrinks refl c.loop-rest.names.items _ c.in_ok-name.name c.loop-rest.rest c.skip.result c.in_ok-name.behind c.loop-rest.invariant
    c.loop-rest-test.ensures c.skip.ensures c.in_ok-name.ensures c.in_ok-push-2.ensures.items

pub returns : goal.returns
returns c = rw c.from_vec.ensures (chain_ends _ _ at_comma with_last identifier_of (identifiers_of c.args.r) c.loop-rest.names.items c.loop-rest.rest c.loop-rest.invariant (sym c.loop-rest-test.ensures))
