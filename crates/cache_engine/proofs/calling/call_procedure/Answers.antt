use Rattle.std.proofs.Common.{Ok, ap, refl, ◌∙◌}
use Rattle.cache_tier.specs.declared.called.Called.TheVariants.{Drain, RefreshSet, SetLevel}
use Rattle.cache_engine.proofs.CallingLaws.{called_done, level_over, not_called, refresh_over}
use Rattle.cache_engine.proofs.CauseLaws.{caused_bank}
use Rattle.cache_engine.proofs.calling.call_procedure.Goals as goal

pub returns-in-Err-clause-performs : goal.returns-in-Err-clause-performs
returns-in-Err-clause-performs g c = not_called g.P.Disk.state g.P.Disk.possible c.args.tier.now c.args.journal.now c.args.site.now c.args.id c.args.call.now c.in-Err.refused c.in-Err.ensures

pub returns-in-Drain-clause-performs : goal.returns-in-Drain-clause-performs
returns-in-Drain-clause-performs g c =
    called_done g.P.Disk.state g.P.Disk.possible c.args.tier.now c.drain.new.self c.args.journal.now c.drain.new.journal c.args.site.now c.drain.new.site c.args.id c.args.call.now Drain c.drain.result (c.in-Ok.ensures ∙ ap Ok c.in-Drain.is) (λ s has. c.drain.ensures.performs)

pub returns-in-RefreshSet-clause-performs : goal.returns-in-RefreshSet-clause-performs
returns-in-RefreshSet-clause-performs g c =
    called_done g.P.Disk.state g.P.Disk.possible c.args.tier.now c.refresh_called.new.tier c.args.journal.now c.args.journal.now c.args.site.now c.refresh_called.new.site c.args.id c.args.call.now (RefreshSet c.in-RefreshSet.interval) c.refresh_called.result (c.in-Ok.ensures ∙ ap Ok c.in-RefreshSet.is)
    (λ s has.
    refresh_over g.P.Disk.state g.P.Disk.possible c.args.tier.now c.refresh_called.new.tier c.args.journal.now c.args.site.now c.refresh_called.new.site c.in-RefreshSet.interval
    c.refresh_called.result c.refresh_called.ensures.certain c.refresh_called.ensures.performs)

pub returns-in-RefreshSet-clause-cause : goal.returns-in-RefreshSet-clause-cause
returns-in-RefreshSet-clause-cause g c =
    caused_bank c.args.journal.now (g.P.Disk.state c.args.site.now) (g.P.Disk.state c.refresh_called.new.site) c.refresh_called.result c.refresh_called.ensures.disk
    c.refresh_called.ensures.cause

pub returns-in-SetLevel-clause-performs : goal.returns-in-SetLevel-clause-performs
returns-in-SetLevel-clause-performs g c =
    called_done g.P.Disk.state g.P.Disk.possible c.args.tier.now c.give_level.new.tier c.args.journal.now c.args.journal.now c.args.site.now c.args.site.now c.args.id c.args.call.now (SetLevel c.in-SetLevel.level) c.give_level.result (c.in-Ok.ensures ∙ ap Ok c.in-SetLevel.is)
    (λ s has.
    level_over g.P.Disk.state g.P.Disk.possible c.args.tier.now c.give_level.new.tier c.args.journal.now c.args.site.now s c.in-SetLevel.level c.give_level.result
    (c.give_level.ensures.performs _ s has))

pub returns-in-SetLevel-clause-cause : goal.returns-in-SetLevel-clause-cause
returns-in-SetLevel-clause-cause g c =
    caused_bank c.args.journal.now (g.P.Disk.state c.args.site.now) (g.P.Disk.state c.args.site.now) c.give_level.result refl (c.give_level.ensures.calm _)
