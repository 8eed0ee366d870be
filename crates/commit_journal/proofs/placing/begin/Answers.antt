use Rattle.commit_journal.proofs.TurnLaws.{begin_first, begin_second, begin_done}
use Rattle.commit_journal.proofs.placing.begin.Goals as goal

pub returns-in_err-fill-clause-crash : goal.returns-in_err-fill-clause-crash
returns-in_err-fill-clause-crash g c = λ o h can.
    begin_first g.D.Disk.state g.D.Disk.possible c.args.slot c.args.bytes.now o can.dead c.args.d.now c.fill.new.d (c.fill.ensures.crash o h can.some)

pub returns-in_err-put-clause-crash : goal.returns-in_err-put-clause-crash
returns-in_err-put-clause-crash g c = λ o h can.
    begin_second g.D.Disk.state g.D.Disk.possible c.args.slot c.args.bytes.now o can.dead c.args.d.now c.fill.new.d c.put.new.d
    (c.fill.ensures.crash o h can.some) (c.in_ok-fill.ensures.filled o h can.some) c.put.ensures.crash

pub returns-clause-crash : goal.returns-clause-crash
returns-clause-crash g c = λ o h can.
    begin_second g.D.Disk.state g.D.Disk.possible c.args.slot c.args.bytes.now o can.dead c.args.d.now c.fill.new.d c.put.new.d
    (c.fill.ensures.crash o h can.some) (c.in_ok-fill.ensures.filled o h can.some) c.put.ensures.crash

pub returns-clause-begun : goal.returns-clause-begun
returns-clause-begun g c = λ o h can.
    begin_done g.D.Disk.state g.D.Disk.possible c.args.slot c.args.bytes.now o can.dead c.fill.new.d c.put.new.d (c.in_ok-fill.ensures.filled o h can.some) c.in_ok-put.ensures.certain
