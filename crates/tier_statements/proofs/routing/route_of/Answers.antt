use Rattle.tier_statements.proofs.RouteLaws.{way_refused}
use Rattle.tier_statements.proofs.routing.route_of.Goals as goal

pub returns-in-Err-clause-told : goal.returns-in-Err-clause-told
returns-in-Err-clause-told g c = λ t s p has level_is own_is table_is.
    way_refused t s p c.args.level c.args.table level_is table_is _ (c.in-Err.ensures t has)
