use Rattle.propagators.proofs.CertainLaws.{same_certain}
use Rattle.dynamic_loads.specs.OfGroupEngine.RefreshedSets.{refresh_does, refresh_failed, refresh_passes}
use Rattle.cache_engine.proofs.due_work.refresh_set.Goals as goal

pub returns-then-not-shows_something-clause-performs : goal.returns-then-not-shows_something-clause-performs
returns-then-not-shows_something-clause-performs g c =
    refresh_passes c.args.tier.now _ c.args.interval c.shows_something.result c.shows_something.ensures c.if-not-shows_something.true

pub returns-in-Ok-clause-performs : goal.returns-in-Ok-clause-performs
returns-in-Ok-clause-performs g c =
    refresh_does c.args.tier.now _ _ _ c.args.interval c.shows_something.result _ c.shows_something.ensures c.if-not-shows_something.false c.in-Ok.ensures.performs

pub returns-in-Err-clause-performs : goal.returns-in-Err-clause-performs
returns-in-Err-clause-performs g c =
    refresh_failed c.args.tier.now _ _ _ c.args.interval c.shows_something.result c.in-Err.error c.bank_fault.result c.shows_something.ensures c.if-not-shows_something.false c.in-Err.ensures.performs c.bank_fault.ensures

pub returns-then-not-shows_something-clause-certain : goal.returns-then-not-shows_something-clause-certain
returns-then-not-shows_something-clause-certain g c = same_certain g.P.Disk.state g.P.Disk.possible c.args.site.now
