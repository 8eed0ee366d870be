use Rattle.std.proofs.Common.{refl, sym, length, ◌≤◌}
use Rattle.sql_phrases.specs.Reading.{with_last}
use Rattle.sql_phrases.specs.Writes.{write_of}
use Rattle.sql_subset.specs.Statements.{goes_on, writes_of}
use Rattle.sql_phrases.proofs.Chains.{chain_first, chain_more, chain_ends, chain_shorter}
use Rattle.sql_phrases.proofs.Shrinking.{write_shrinks}
use Rattle.sql_subset.proofs.statements.read_writes.Goals as goal

pub loop-rest-init : goal.loop-rest-init
loop-rest-init c =
    let l : length c.in_ok-first.rest ≤ length c.args.r = rw c.in_ok-first.ensures at (write_shrinks c.args.r) in
    chain_first _ goes_on with_last write_of c.args.r c.in_ok-first.first c.push.new.self.items c.in_ok-first.rest (rw c.new-writes.ensures.items at c.in_ok-push.ensures.items) c.in_ok-first.ensures l

pub loop-rest-smaller : goal.loop-rest-smaller
loop-rest-smaller c =
    chain_shorter _ _ goes_on with_last write_of (writes_of c.args.r) write_shrinks refl c.in_ok-write.write c.loop-rest.rest c.skip.result c.in_ok-write.behind c.loop-rest-test.ensures c.skip.ensures c.in_ok-write.ensures

pub loop-rest-preserved : goal.loop-rest-preserved
loop-rest-preserved c =
    chain_more _ _ goes_on with_last write_of (writes_of c.args.r) write_shrinks refl c.loop-rest.writes.items _ c.in_ok-write.write c.loop-rest.rest c.skip.result c.in_ok-write.behind c.loop-rest.invariant
    c.loop-rest-test.ensures c.skip.ensures c.in_ok-write.ensures c.in_ok-push-2.ensures.items

pub returns : goal.returns
returns c = rw c.from_vec.ensures (chain_ends _ _ goes_on with_last write_of (writes_of c.args.r) c.loop-rest.writes.items c.loop-rest.rest c.loop-rest.invariant (sym c.loop-rest-test.ensures))
