use Rattle.std.proofs.Common.{None, Some}
use Rattle.group_engine.proofs.ReadyLaws.{batch_written, err_flush, nothing_written, ok_flush, one_written}
use Rattle.group_engine.proofs.ready.flush_ready.Goals as goal

pub returns-in-Nothing-clause-flushes : goal.returns-in-Nothing-clause-flushes
returns-in-Nothing-clause-flushes g c = nothing_written g.D.Disk.state g.D.Disk.possible c.args.journal.now c.args.disk.now c.args.ready.now c.in-Nothing.is

pub returns-in-Ok-clause-flushes : goal.returns-in-Ok-clause-flushes
returns-in-Ok-clause-flushes g c =
    batch_written g.D.Disk.state g.D.Disk.possible c.args.journal.now (Some c.flush_with.new.self) c.in-Some.journal c.args.disk.now c.flush_with.new.d c.in-Both.batch c.args.ready.now None c.in-Some.is c.in-Both.is
    (λ w entries now over holds. ok_flush g.D.Disk.state g.D.Disk.possible c.in-Some.journal c.flush_with.new.self c.args.disk.now c.flush_with.new.d w c.in-Both.batch entries now over holds
    c.flush_with.ensures.moment c.in-Ok.ensures.flushed c.in-Ok.ensures.version c.flush_with.ensures.crash)

pub returns-in-Err-clause-flushes : goal.returns-in-Err-clause-flushes
returns-in-Err-clause-flushes g c =
    batch_written g.D.Disk.state g.D.Disk.possible c.args.journal.now (Some c.flush_with.new.self) c.in-Some.journal c.args.disk.now c.flush_with.new.d c.in-Both.batch c.args.ready.now (Some c.faulty.result) c.in-Some.is c.in-Both.is
    (λ w entries now over holds. err_flush g.D.Disk.state g.D.Disk.possible g.met.D.Disk.read_possible c.in-Some.journal c.flush_with.new.self c.args.disk.now c.flush_with.new.d w c.in-Both.batch entries c.faulty.result now over holds
    c.flush_with.ensures.tells c.flush_with.ensures.crash c.faulty.ensures)

pub returns-in-One-clause-flushes : goal.returns-in-One-clause-flushes
returns-in-One-clause-flushes g c =
    one_written g.D.Disk.state g.D.Disk.possible c.args.journal.now c.flush_draft.new.journal c.args.disk.now c.flush_draft.new.disk c.in-One.draft c.args.ready.now _ c.in-One.is c.flush_draft.ensures.flushes
