use Rattle.propagators.proofs.CertainLaws.{same_certain}
use Rattle.std.proofs.Common.{ap, refl, ◌∙◌}
use Rattle.cache_tier.specs.declared.reply.Last.TheVariants.{Done}
use Rattle.cache_tier.specs.Worlds.{only}
use Rattle.cache_engine.proofs.CallingLaws.{refresh_done, refresh_ended}
use Rattle.dynamic_loads.specs.OfGroupEngine.TriedLaws.{stands_entered, with_sets}
use Rattle.cache_engine.proofs.calling.refresh_called.Goals as goal

pub returns-in-Err-clause-performs : goal.returns-in-Err-clause-performs
returns-in-Err-clause-performs g c = λ w at stands unshared.
    refresh_ended (with_sets c.args.tier.now (record c.args.tier.now.clock { sets = c.make_moment.new.sets })) c.refresh_set.new.tier _ _ c.args.interval c.in-Err.reply c.in-Err.ensures.performs w at
    (stands_entered c.args.tier.now (record c.args.tier.now.clock { sets = c.make_moment.new.sets }) w (record { now = refl; added = refl; round = refl; due = refl }) c.make_moment.ensures.same stands)
    unshared

pub returns-in-Ok-clause-performs : goal.returns-in-Ok-clause-performs
returns-in-Ok-clause-performs g c = λ w at stands unshared.
    refresh_done (with_sets c.args.tier.now (record c.args.tier.now.clock { sets = c.make_moment.new.sets })) c.refresh_set.new.tier _ _ c.args.interval c.done.result
    (c.done.ensures ∙ ap (λ n. only (Done n)) c.set_size.ensures) c.in-Ok.ensures.performs w at
    (stands_entered c.args.tier.now (record c.args.tier.now.clock { sets = c.make_moment.new.sets }) w (record { now = refl; added = refl; round = refl; due = refl }) c.make_moment.ensures.same stands)
    unshared

pub returns-then-is_err-clause-certain : goal.returns-then-is_err-clause-certain
returns-then-is_err-clause-certain g c = same_certain g.P.Disk.state g.P.Disk.possible c.args.site.now
