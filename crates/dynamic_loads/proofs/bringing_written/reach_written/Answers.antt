use Rattle.std.proofs.Common.{Err, Ok, Some, sym, subst}
use Rattle.group_catalog.specs.Kept.{group_seen}
use Rattle.propagators.proofs.CertainLaws.{bank_certain}
use Rattle.statement_uses.specs.Wanting.{want_seen}
use Rattle.dynamic_loads.proofs.ReachedWorlds.{reach_failed, reached_err, reached_ok, reaches_nothing, Says}
use Rattle.dynamic_loads.proofs.TakenSound.{reached_sound}
use Rattle.stored_tier.specs.Performing.{IsPerformed}
use Rattle.dynamic_loads.proofs.bringing_written.reach_written.Goals as goal

pub returns-in-None-clause-reaches : goal.returns-in-None-clause-reaches
returns-in-None-clause-reaches g c = λ w at stands apart.
    subst (λ r. IsPerformed c.args.tier.now (g.P.Disk.state c.args.site.now) (Says c.args.place (want_seen c.args.want.now) w (Some r))) (sym c.faulty.ensures)
    (reaches_nothing c.args.tier.now (g.P.Disk.state c.args.site.now) c.args.place (want_seen c.args.want.now) w at stands)

pub returns-in-Err-clause-reaches : goal.returns-in-Err-clause-reaches
returns-in-Err-clause-reaches g c = λ w at stands apart.
    reach_failed c.args.tier.now c.in-Some.group.now.def.tree c.args.want.now.table c.args.want.now.key c.in-Err.error c.bank_fault.result (g.P.Disk.state c.args.site.now) (g.P.Disk.state c.reach.new.self)
    (record { told = c.in-Err.ensures.told; faults = c.in-Err.ensures.cause.later; moment = c.in-Err.ensures.crash.later; shares = c.in-Err.ensures.cause.shared })
    c.bank_fault.ensures c.args.place (want_seen c.args.want.now) w at stands apart

pub returns-in-Err-clause-certain : goal.returns-in-Err-clause-certain
returns-in-Err-clause-certain g c = bank_certain g.P.Disk.state g.P.Disk.possible g.met.P.Disk.certain c.args.site.now c.reach.new.self _ c.in-Err.ensures.told c.in-Err.ensures.crash

pub returns-in-Err-take_reached-clause-reaches : goal.returns-in-Err-take_reached-clause-reaches
returns-in-Err-take_reached-clause-reaches g c = λ w at stands apart.
    subst (λ r. IsPerformed c.take_reached.new.tier (g.P.Disk.state c.reach.new.self) (Says c.args.place (want_seen c.args.want.now) w (Some r))) (sym c.faulty-in-Err-take_reached.ensures)
    (reached_err c.args.tier.now c.requires.sound c.requires.settled c.args.place (want_seen c.args.want.now) (group_seen c.in-Some.group.now) (sym c.in-Some.ensures) c.in-Ok.reached (g.P.Disk.state c.args.site.now) (g.P.Disk.state c.reach.new.self)
    (record { told = c.in-Ok.ensures.told; faults = c.in-Ok.ensures.cause.later; moment = c.in-Ok.ensures.crash.later; shares = c.in-Ok.ensures.cause.shared })
    w at stands apart c.take_reached.new.tier c.in-Err-take_reached.field-0 c.in-Err-take_reached.ensures)

pub returns-in-Err-take_reached-clause-certain : goal.returns-in-Err-take_reached-clause-certain
returns-in-Err-take_reached-clause-certain g c = bank_certain g.P.Disk.state g.P.Disk.possible g.met.P.Disk.certain c.args.site.now c.reach.new.self _ c.in-Ok.ensures.told c.in-Ok.ensures.crash

pub returns-in-Err-take_reached-clause-sound : goal.returns-in-Err-take_reached-clause-sound
returns-in-Err-take_reached-clause-sound g c = reached_sound c.args.tier.now c.take_reached.new.tier c.args.place c.in-Ok.reached.instance (Err c.in-Err-take_reached.field-0) c.requires.sound c.in-Err-take_reached.ensures

pub returns-clause-reaches : goal.returns-clause-reaches
returns-clause-reaches g c = λ w at stands apart.
    reached_ok c.args.tier.now c.requires.sound c.requires.settled c.args.place (want_seen c.args.want.now) (group_seen c.in-Some.group.now) (sym c.in-Some.ensures) c.in-Ok.reached (g.P.Disk.state c.args.site.now) (g.P.Disk.state c.reach.new.self)
    (record { told = c.in-Ok.ensures.told; faults = c.in-Ok.ensures.cause.later; moment = c.in-Ok.ensures.crash.later; shares = c.in-Ok.ensures.cause.shared })
    w at stands apart c.take_reached.new.tier c.in-Ok-take_reached.ensures

pub returns-clause-certain : goal.returns-clause-certain
returns-clause-certain g c = bank_certain g.P.Disk.state g.P.Disk.possible g.met.P.Disk.certain c.args.site.now c.reach.new.self _ c.in-Ok.ensures.told c.in-Ok.ensures.crash

pub returns-clause-sound : goal.returns-clause-sound
returns-clause-sound g c = reached_sound c.args.tier.now c.take_reached.new.tier c.args.place c.in-Ok.reached.instance (Ok c.in-Ok-take_reached.field-0) c.requires.sound c.in-Ok-take_reached.ensures
