use Rattle.std.proofs.Common.{◌<◌, ◌≤◌, length, true, arith}
use Rattle.cache_tier.specs.Groups.{is_table_of}
use Rattle.tier_statements.proofs.NameLaws.{found_at, is_cached, none_left, passed}
use Rattle.tier_statements.proofs.naming.first_cached.Goals as goal

pub returns-then-is_cached_at-clause-table : goal.returns-then-is_cached_at-clause-table
returns-then-is_cached_at-clause-table g c =
    let lt : c.loop-place.place < length c.args.schema.now = (let a = c.loop-place-test.true in let b = c.len-place-end.ensures in omega arith) in
    found_at (is_table_of (λ x. true) (g.C.Catalog.groups c.args.catalog.now)) c.args.name.now c.requires.named c.args.schema.now c.loop-place.place lt c.loop-place.invariant
    c.is_cached_at.result c.is_cached_at.ensures c.if-is_cached_at.true (let few = c.requires.few in omega arith)

pub returns-then-is_cached_at-clause-cached : goal.returns-then-is_cached_at-clause-cached
returns-then-is_cached_at-clause-cached g c =
    let lt : c.loop-place.place < length c.args.schema.now = (let a = c.loop-place-test.true in let b = c.len-place-end.ensures in omega arith) in
    is_cached (is_table_of (λ x. true) (g.C.Catalog.groups c.args.catalog.now)) c.args.name.now c.requires.named c.args.schema.now c.loop-place.place lt c.loop-place.invariant
    c.is_cached_at.result c.is_cached_at.ensures c.if-is_cached_at.true

pub loop-place-preserved : goal.loop-place-preserved
loop-place-preserved g c =
    let lt : c.loop-place.place < length c.args.schema.now = (let a = c.loop-place-test.true in let b = c.len-place-end.ensures in omega arith) in
    passed (is_table_of (λ x. true) (g.C.Catalog.groups c.args.catalog.now)) c.args.name.now c.requires.named c.args.schema.now c.loop-place.place lt c.loop-place.invariant
    c.is_cached_at.result c.is_cached_at.ensures c.if-is_cached_at.false

pub returns-clause-table : goal.returns-clause-table
returns-clause-table g c =
    let past : length c.args.schema.now ≤ c.loop-place.place = (let a = c.loop-place-test.false in let b = c.len-place-end.ensures in omega arith) in
    none_left (is_table_of (λ x. true) (g.C.Catalog.groups c.args.catalog.now)) c.args.name.now c.args.schema.now c.loop-place.place past c.loop-place.invariant
