use Rattle.statement_uses.specs.Wanting.{want_seen}
use Rattle.stored_tier.specs.Performing.{stop_of}
use Rattle.group_engine.proofs.BringTried.{brought_moved, brought_wanting, moved_stop, wanting_calm}
use Rattle.group_engine.proofs.ReadyLaws.{calm_cause, stays_none}
use Rattle.group_engine.proofs.bringing.bring_whole.Goals as goal

pub returns-in-Err-clause-brings : goal.returns-in-Err-clause-brings
returns-in-Err-clause-brings g c =
    brought_wanting g.P.Disk.state g.P.Disk.possible c.args.tier.now c.args.tier.now c.args.journal.now c.args.place (want_seen c.args.want.now) c.ready_to_load.new.journal c.args.site.now c.faulty.result c.ready_to_load.ensures.kept (λ w stands. stands) c.faulty.ensures

pub returns-in-Err-clause-none : goal.returns-in-Err-clause-none
returns-in-Err-clause-none g c = stays_none _ _ c.ready_to_load.ensures.kept

pub returns-in-Err-clause-cause : goal.returns-in-Err-clause-cause
returns-in-Err-clause-cause g c = calm_cause _ _ c.faulty.result (wanting_calm c.faulty.result c.faulty.ensures)

pub returns-clause-brings : goal.returns-clause-brings
returns-clause-brings g c =
    brought_moved g.P.Disk.state g.P.Disk.possible c.args.tier.now c.bring_ready.new.tier c.args.journal.now c.args.place (want_seen c.args.want.now) c.ready_to_load.new.journal c.bring_ready.new.journal c.args.site.now c.bring_ready.new.site (stop_of c.bring_ready.result) _ c.ready_to_load.ensures.kept c.bring_ready.ensures.brings

pub returns-clause-none : goal.returns-clause-none
returns-clause-none g c = λ is. c.bring_ready.ensures.none (stays_none _ _ c.ready_to_load.ensures.kept is)

pub returns-clause-cause : goal.returns-clause-cause
returns-clause-cause g c = moved_stop _ _ _ _ (stop_of c.bring_ready.result) c.ready_to_load.ensures.kept c.bring_ready.ensures.cause
