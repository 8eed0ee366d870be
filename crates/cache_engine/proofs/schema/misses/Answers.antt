use Rattle.cache_engine.proofs.AskingLaws.{misses_some}
use Rattle.cache_engine.proofs.schema.misses.Goals as goal

pub returns-in-Some : goal.returns-in-Some
returns-in-Some c =
    misses_some c.args.tier.now c.args.name.now c.in-Some.table c.has_table.result c.in-Some.ensures c.has_table.ensures
