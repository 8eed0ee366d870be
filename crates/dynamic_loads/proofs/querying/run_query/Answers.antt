use Rattle.std.proofs.Common.{Ok, subst}
use Rattle.session_engine.specs.Selecting.{RoutesQuery}
use Rattle.dynamic_loads.proofs.JoinedStatements.{cached_query, passed_query, refused_query}
use Rattle.dynamic_loads.proofs.querying.run_query.Goals as goal

pub returns-in-Err-clause-performs : goal.returns-in-Err-clause-performs
returns-in-Err-clause-performs g c =
    refused_query g.P.Disk.state g.P.Disk.possible c.args.tier.now c.args.journal.now c.args.site.now c.args.site.now c.args.id c.args.query.now c.in-Err.refused c.in-Err.ensures

pub returns-in-Ok-Cached-clause-performs : goal.returns-in-Ok-Cached-clause-performs
returns-in-Ok-Cached-clause-performs g c =
    cached_query g.P.Disk.state g.P.Disk.possible c.args.tier.now c.select_loaded.new.tier c.args.journal.now c.select_loaded.new.journal c.args.site.now c.select_loaded.new.site c.args.id c.args.query.now c.in-Ok-Cached.resolved c.select_loaded.result
    (λ a s is has. subst (λ x. RoutesQuery a s c.args.query.now (Ok x)) c.in-Ok-Cached.field-0-is (c.in-Ok-Cached.ensures a s is has)) c.select_loaded.ensures.performs

pub returns-in-Ok-PassedOn-clause-performs : goal.returns-in-Ok-PassedOn-clause-performs
returns-in-Ok-PassedOn-clause-performs g c =
    passed_query g.P.Disk.state g.P.Disk.possible c.args.tier.now c.args.journal.now c.args.site.now c.select_passed.new.site c.args.id c.args.query.now c.in-Ok-PassedOn.resolved c.select_passed.result
    (λ a s is has. subst (λ x. RoutesQuery a s c.args.query.now (Ok x)) c.in-Ok-PassedOn.field-0-is (c.in-Ok-PassedOn.ensures a s is has)) c.select_passed.ensures.certain (c.select_passed.ensures.passes c.args.tier.now)
