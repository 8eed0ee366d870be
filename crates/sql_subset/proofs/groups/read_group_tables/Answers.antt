use Rattle.std.proofs.Common.{refl, sym, length, ◌≤◌}
use Rattle.sql_phrases.specs.Reading.{at_comma, with_last}
use Rattle.sql_subset.specs.Groups.{group_table_of, group_tables_of}
use Rattle.sql_phrases.proofs.Chains.{chain_first, chain_more, chain_ends, chain_shorter}
use Rattle.sql_subset.proofs.Shrinking.{group_table_shrinks}
use Rattle.sql_subset.proofs.groups.read_group_tables.Goals as goal

pub loop-kind-init : goal.loop-kind-init
loop-kind-init c =
    let l : length c.in_ok-first.rest ≤ length c.args.r = rw c.in_ok-first.ensures at (group_table_shrinks c.args.kind c.args.r) in
    chain_first _ at_comma with_last (group_table_of c.args.kind) c.args.r c.in_ok-first.first c.push.new.self.items c.in_ok-first.rest (rw c.new-tables.ensures.items at c.in_ok-push.ensures.items) c.in_ok-first.ensures l

pub loop-kind-smaller : goal.loop-kind-smaller
loop-kind-smaller c =
    chain_shorter _ _ at_comma with_last (group_table_of c.args.kind) (group_tables_of c.args.kind c.args.r) (group_table_shrinks c.args.kind) refl c.in_ok-table.table c.loop-kind.rest c.skip.result c.in_ok-table.behind c.loop-kind-test.ensures c.skip.ensures c.in_ok-table.ensures

pub loop-kind-preserved : goal.loop-kind-preserved
loop-kind-preserved c =
    chain_more _ _ at_comma with_last (group_table_of c.args.kind) (group_tables_of c.args.kind c.args.r) (group_table_shrinks c.args.kind) refl c.loop-kind.tables.items _ c.in_ok-table.table c.loop-kind.rest c.skip.result c.in_ok-table.behind c.loop-kind.invariant
    c.loop-kind-test.ensures c.skip.ensures c.in_ok-table.ensures c.in_ok-push-2.ensures.items

pub returns : goal.returns
returns c = rw c.from_vec.ensures (chain_ends _ _ at_comma with_last (group_table_of c.args.kind) (group_tables_of c.args.kind c.args.r) c.loop-kind.tables.items c.loop-kind.rest c.loop-kind.invariant (sym c.loop-kind-test.ensures))
