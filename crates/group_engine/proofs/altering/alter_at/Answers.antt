use Rattle.sql_subset.specs.declared.stmt.RefreshState.TheVariants.{Off, On, Paused}
use Rattle.stored_tier.specs.Performing.{reply_of}
use Rattle.group_engine.proofs.AlteringLaws.{altered_ready, not_ready, of_state, off_alone}
use Rattle.group_engine.proofs.ReadyLaws.{moved_cause}
use Rattle.group_engine.proofs.altering.alter_at.Goals as goal

pub returns-in-Err-clause-alters : goal.returns-in-Err-clause-alters
returns-in-Err-clause-alters g c =
    not_ready g.P.Disk.state g.P.Disk.possible c.args.tier.now c.args.journal.now c.ready_at.new.journal c.args.site.now c.args.state c.args.place c.in-Err.refused c.ready_at.ensures.kept c.in-Err.ensures.memory

pub returns-in-On-clause-alters : goal.returns-in-On-clause-alters
returns-in-On-clause-alters g c =
    altered_ready g.P.Disk.state g.P.Disk.possible c.args.tier.now c.alter_to_on.new.tier c.args.journal.now c.ready_at.new.journal c.alter_to_on.new.journal c.args.site.now c.alter_to_on.new.site c.in-Ok.ready c.args.state c.args.place (reply_of c.alter_to_on.result) c.in-Ok.ensures.ready c.ready_at.ensures.kept
    (of_state g.P.Disk.state g.P.Disk.possible c.args.tier.now c.alter_to_on.new.tier c.ready_at.new.journal c.alter_to_on.new.journal c.args.site.now c.alter_to_on.new.site c.in-Ok.ready c.args.place (reply_of c.alter_to_on.result) c.args.state On c.in-On.is c.alter_to_on.ensures.alters)

pub returns-clause-alters : goal.returns-clause-alters
returns-clause-alters g c =
    altered_ready g.P.Disk.state g.P.Disk.possible c.args.tier.now c.alter_to_paused.new.tier c.args.journal.now c.ready_at.new.journal c.alter_to_paused.new.journal c.args.site.now c.alter_to_paused.new.site c.in-Ok.ready c.args.state c.args.place (reply_of c.alter_to_paused.result) c.in-Ok.ensures.ready c.ready_at.ensures.kept
    (of_state g.P.Disk.state g.P.Disk.possible c.args.tier.now c.alter_to_paused.new.tier c.ready_at.new.journal c.alter_to_paused.new.journal c.args.site.now c.alter_to_paused.new.site c.in-Ok.ready c.args.place (reply_of c.alter_to_paused.result) c.args.state Paused c.in-Paused.is c.alter_to_paused.ensures.alters)

pub returns-in-Off-clause-alters : goal.returns-in-Off-clause-alters
returns-in-Off-clause-alters g c =
    altered_ready g.P.Disk.state g.P.Disk.possible c.args.tier.now c.give_state.new.tier c.args.journal.now c.ready_at.new.journal c.give_state.new.journal c.args.site.now c.give_state.new.site c.in-Ok.ready c.args.state c.args.place c.give_state.result c.in-Ok.ensures.ready c.ready_at.ensures.kept
    (of_state g.P.Disk.state g.P.Disk.possible c.args.tier.now c.give_state.new.tier c.ready_at.new.journal c.give_state.new.journal c.args.site.now c.give_state.new.site c.in-Ok.ready c.args.place c.give_state.result c.args.state Off c.in-Off.is
    (off_alone g.P.Disk.state g.P.Disk.possible c.args.tier.now c.give_state.new.tier c.ready_at.new.journal c.give_state.new.journal c.args.site.now c.give_state.new.site c.in-Ok.ready c.args.place c.give_state.result c.give_state.ensures.alters))

pub returns-in-On-clause-cause : goal.returns-in-On-clause-cause
returns-in-On-clause-cause g c = moved_cause _ _ _ _ _ c.ready_at.ensures.kept c.alter_to_on.ensures.cause

pub returns-in-Off-clause-cause : goal.returns-in-Off-clause-cause
returns-in-Off-clause-cause g c = moved_cause _ _ _ _ _ c.ready_at.ensures.kept c.give_state.ensures.cause

pub returns-clause-cause : goal.returns-clause-cause
returns-clause-cause g c = moved_cause _ _ _ _ _ c.ready_at.ensures.kept c.alter_to_paused.ensures.cause
