use Rattle.outside.specs.declared.fault.DiskFault.{DiskFault}
use Rattle.outside.proofs.Moments.{then_stays}
use Rattle.commit_journal.specs.Turning.{Filling}
use Rattle.commit_journal.proofs.TurnLaws.{fill_write, fill_done}
use Rattle.commit_journal.proofs.placing.fill.Goals as goal

pub returns-in_err-write_at-clause-crash : goal.returns-in_err-write_at-clause-crash
returns-in_err-write_at-clause-crash g c = λ o h some.
    fill_write g.D.Disk.state g.D.Disk.possible c.args.slot c.args.bytes.now o some DiskFault c.args.d.now c.cut.new.self c.write_at.new.self h c.cut.ensures.crash c.in_ok-cut.ensures.told c.write_at.ensures.crash

pub returns-in_err-sync-clause-crash : goal.returns-in_err-sync-clause-crash
returns-in_err-sync-clause-crash g c = λ o h some.
    then_stays g.D.Disk.state g.D.Disk.possible c.args.d.now c.write_at.new.self c.sync.new.self (Filling c.args.slot o)
    (fill_write g.D.Disk.state g.D.Disk.possible c.args.slot c.args.bytes.now o some DiskFault c.args.d.now c.cut.new.self c.write_at.new.self h c.cut.ensures.crash c.in_ok-cut.ensures.told c.write_at.ensures.crash)
    c.sync.ensures.crash

pub returns-clause-crash : goal.returns-clause-crash
returns-clause-crash g c = λ o h some.
    then_stays g.D.Disk.state g.D.Disk.possible c.args.d.now c.write_at.new.self c.sync.new.self (Filling c.args.slot o)
    (fill_write g.D.Disk.state g.D.Disk.possible c.args.slot c.args.bytes.now o some DiskFault c.args.d.now c.cut.new.self c.write_at.new.self h c.cut.ensures.crash c.in_ok-cut.ensures.told c.write_at.ensures.crash)
    c.sync.ensures.crash

pub returns-clause-filled : goal.returns-clause-filled
returns-clause-filled g c = λ o h some.
    fill_done g.D.Disk.state g.D.Disk.possible c.args.slot c.args.bytes.now o some DiskFault DiskFault DiskFault c.args.d.now c.cut.new.self c.write_at.new.self c.sync.new.self h
    c.cut.ensures.crash c.in_ok-cut.ensures.told c.write_at.ensures.crash c.in_ok-write_at.ensures.told c.sync.ensures.crash c.in_ok-sync.ensures.told c.in_ok-sync.ensures.durable
