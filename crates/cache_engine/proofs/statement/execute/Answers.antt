use Rattle.std.proofs.Common.{refl}
use Rattle.session_engine.proofs.DoubtLaws.{ready_none}
use Rattle.stored_tier.specs.Performing.{reply_of}
use Rattle.cache_engine.proofs.CauseLaws.{caused_bank}
use Rattle.cache_engine.proofs.EngineLaws.{ended_executes, flush_executes, roll_back_executes}
use Rattle.cache_engine.proofs.statement.execute.Goals as goal

pub returns-in-Commit-clause-performs : goal.returns-in-Commit-clause-performs
returns-in-Commit-clause-performs g c = rw c.in-Commit.is c.commit_transaction.ensures.performs

pub returns-in-Select-clause-performs : goal.returns-in-Select-clause-performs
returns-in-Select-clause-performs g c =
    ended_executes g.P.Disk.state g.P.Disk.possible c.args.tier.now c.run_query.new.tier c.args.doubt.now c.args.journal.now c.run_query.new.journal
    c.args.site.now c.run_query.new.site c.args.id c.args.statement c.run_query.result c.requires.free
    (rw c.in-Select.is c.run_query.ensures.performs)

pub returns-in-Select-clause-ready : goal.returns-in-Select-clause-ready
returns-in-Select-clause-ready g c = ready_none c.run_query.new.tier c.args.doubt.now c.requires.free

pub returns-in-Write-clause-performs : goal.returns-in-Write-clause-performs
returns-in-Write-clause-performs g c = rw c.in-Write.is c.run_write.ensures.performs

pub returns-in-CreateGroup-clause-performs : goal.returns-in-CreateGroup-clause-performs
returns-in-CreateGroup-clause-performs g c =
    ended_executes g.P.Disk.state g.P.Disk.possible c.args.tier.now c.create_group.new.tier c.args.doubt.now c.args.journal.now c.create_group.new.journal
    c.args.site.now c.create_group.new.site c.args.id c.args.statement c.create_group.result c.requires.free
    (rw c.in-CreateGroup.is c.create_group.ensures.performs)

pub returns-in-CreateGroup-clause-ready : goal.returns-in-CreateGroup-clause-ready
returns-in-CreateGroup-clause-ready g c = ready_none c.create_group.new.tier c.args.doubt.now c.requires.free

pub returns-in-Load-clause-performs : goal.returns-in-Load-clause-performs
returns-in-Load-clause-performs g c =
    ended_executes g.P.Disk.state g.P.Disk.possible c.args.tier.now c.load_group.new.tier c.args.doubt.now c.args.journal.now c.load_group.new.journal
    c.args.site.now c.load_group.new.site c.args.id c.args.statement c.load_group.result c.requires.free
    (rw c.in-Load.is c.load_group.ensures.performs)

pub returns-in-Load-clause-ready : goal.returns-in-Load-clause-ready
returns-in-Load-clause-ready g c = ready_none c.load_group.new.tier c.args.doubt.now c.requires.free

pub returns-in-Refresh-clause-performs : goal.returns-in-Refresh-clause-performs
returns-in-Refresh-clause-performs g c =
    ended_executes g.P.Disk.state g.P.Disk.possible c.args.tier.now c.refresh_group.new.tier c.args.doubt.now c.args.journal.now c.refresh_group.new.journal
    c.args.site.now c.refresh_group.new.site c.args.id c.args.statement c.refresh_group.result c.requires.free
    (rw c.in-Refresh.is c.refresh_group.ensures.performs)

pub returns-in-Refresh-clause-ready : goal.returns-in-Refresh-clause-ready
returns-in-Refresh-clause-ready g c = ready_none c.refresh_group.new.tier c.args.doubt.now c.requires.free

pub returns-in-Unload-clause-performs : goal.returns-in-Unload-clause-performs
returns-in-Unload-clause-performs g c =
    ended_executes g.P.Disk.state g.P.Disk.possible c.args.tier.now c.unload_group.new.tier c.args.doubt.now c.args.journal.now c.unload_group.new.journal
    c.args.site.now c.unload_group.new.site c.args.id c.args.statement c.unload_group.result c.requires.free
    (rw c.in-Unload.is c.unload_group.ensures.performs)

pub returns-in-Unload-clause-ready : goal.returns-in-Unload-clause-ready
returns-in-Unload-clause-ready g c = ready_none c.unload_group.new.tier c.args.doubt.now c.requires.free

pub returns-in-Alter-clause-performs : goal.returns-in-Alter-clause-performs
returns-in-Alter-clause-performs g c =
    ended_executes g.P.Disk.state g.P.Disk.possible c.args.tier.now c.alter_group.new.tier c.args.doubt.now c.args.journal.now c.alter_group.new.journal
    c.args.site.now c.alter_group.new.site c.args.id c.args.statement c.alter_group.result c.requires.free
    (rw c.in-Alter.is c.alter_group.ensures.performs)

pub returns-in-Alter-clause-ready : goal.returns-in-Alter-clause-ready
returns-in-Alter-clause-ready g c = ready_none c.alter_group.new.tier c.args.doubt.now c.requires.free

pub returns-in-DropGroup-clause-performs : goal.returns-in-DropGroup-clause-performs
returns-in-DropGroup-clause-performs g c =
    ended_executes g.P.Disk.state g.P.Disk.possible c.args.tier.now c.drop_group.new.tier c.args.doubt.now c.args.journal.now c.drop_group.new.journal
    c.args.site.now c.drop_group.new.site c.args.id c.args.statement c.drop_group.result c.requires.free
    (rw c.in-DropGroup.is c.drop_group.ensures.performs)

pub returns-in-DropGroup-clause-ready : goal.returns-in-DropGroup-clause-ready
returns-in-DropGroup-clause-ready g c = ready_none c.drop_group.new.tier c.args.doubt.now c.requires.free

pub returns-in-Call-clause-performs : goal.returns-in-Call-clause-performs
returns-in-Call-clause-performs g c =
    ended_executes g.P.Disk.state g.P.Disk.possible c.args.tier.now c.call_procedure.new.tier c.args.doubt.now c.args.journal.now c.call_procedure.new.journal
    c.args.site.now c.call_procedure.new.site c.args.id c.args.statement c.call_procedure.result c.requires.free
    (rw c.in-Call.is c.call_procedure.ensures.performs)

pub returns-in-Call-clause-ready : goal.returns-in-Call-clause-ready
returns-in-Call-clause-ready g c = ready_none c.call_procedure.new.tier c.args.doubt.now c.requires.free

pub returns-in-Flush-clause-performs : goal.returns-in-Flush-clause-performs
returns-in-Flush-clause-performs g c =
    rw c.in-Flush.is
    (flush_executes g.P.Disk.state g.P.Disk.possible c.args.tier.now c.flush_group.new.tier c.args.doubt.now c.args.journal.now c.args.site.now c.args.id
    c.in-Flush.flush c.flush_group.result c.requires.free (c.flush_group.ensures.performs _))

pub returns-in-Flush-clause-ready : goal.returns-in-Flush-clause-ready
returns-in-Flush-clause-ready g c = ready_none c.flush_group.new.tier c.args.doubt.now c.requires.free

pub returns-in-Flush-clause-cause : goal.returns-in-Flush-clause-cause
returns-in-Flush-clause-cause g c =
    caused_bank c.args.journal.now (g.P.Disk.state c.args.site.now) (g.P.Disk.state c.args.site.now) (reply_of c.flush_group.result) refl (c.flush_group.ensures.calm _)

pub returns-in-Rollback-clause-performs : goal.returns-in-Rollback-clause-performs
returns-in-Rollback-clause-performs g c =
    rw c.in-Rollback.is
    (roll_back_executes g.P.Disk.state g.P.Disk.possible c.args.tier.now c.roll_back.new.tier c.args.doubt.now c.args.journal.now c.args.site.now c.args.id
    c.roll_back.result c.requires.free (c.roll_back.ensures.performs _))

pub returns-in-Rollback-clause-ready : goal.returns-in-Rollback-clause-ready
returns-in-Rollback-clause-ready g c = ready_none c.roll_back.new.tier c.args.doubt.now c.requires.free

pub returns-in-Rollback-clause-cause : goal.returns-in-Rollback-clause-cause
returns-in-Rollback-clause-cause g c =
    caused_bank c.args.journal.now (g.P.Disk.state c.args.site.now) (g.P.Disk.state c.args.site.now) (reply_of c.roll_back.result) refl (c.roll_back.ensures.calm _)

pub create_group-requires-clause-text : goal.create_group-requires-clause-text
create_group-requires-clause-text g c = c.requires.text c.in-CreateGroup.group c.in-CreateGroup.is
