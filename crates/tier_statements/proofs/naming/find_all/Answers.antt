use Rattle.std.proofs.Common.{arith}
use Rattle.tier_statements.specs.Sights.{cached_alone}
use Rattle.tier_statements.proofs.NameLaws.{all_done, all_more, all_refused}
use Rattle.tier_statements.proofs.naming.find_all.Goals as goal

pub returns-in-Err : goal.returns-in-Err
returns-in-Err g c =
    all_refused (cached_alone (g.C.Catalog.groups c.args.catalog.now) c.args.schema.now) c.args.schema.now c.args.tables.now c.loop-from.from-index c.from-item.result
    c.loop-from-test.true c.from-item.is c.loop-from.invariant c.in-Err.refused c.in-Err.ensures

pub loop-from-preserved : goal.loop-from-preserved
loop-from-preserved g c =
    all_more (cached_alone (g.C.Catalog.groups c.args.catalog.now) c.args.schema.now) c.args.schema.now c.args.tables.now c.loop-from.from-index c.from-item.result
    c.loop-from-test.true c.from-item.is c.loop-from.invariant c.in-Ok.ensures

pub returns : goal.returns
returns g c =
    all_done (cached_alone (g.C.Catalog.groups c.args.catalog.now) c.args.schema.now) c.args.schema.now c.args.tables.now c.loop-from.from-index
    (let a = c.loop-from-test.false in omega arith) c.loop-from.invariant
