use Rattle.std.proofs.Common.{[]}
use Rattle.outside.proofs.Moments.{weaker}
use Rattle.commit_journal.specs.Resting.{MidFlush}
use Rattle.tier_journal.specs.Leaving.{LeftByFlush}
use Rattle.tier_journal.specs.Writing.{written_all}
use Rattle.tier_journal.proofs.KeepLaws.{flush_kept, mid_flush}
use Rattle.tier_journal.proofs.journal.TierJournal.flush.Goals as goal

pub returns-in_err-flush-clause-crash : goal.returns-in_err-flush-clause-crash
returns-in_err-flush-clause-crash g c = λ schema o j h k.
    weaker g.D.Disk.state g.D.Disk.possible c.args.d.now c.flush.new.d (MidFlush o (written_all schema j.flushed) (written_all schema j.tail)) (LeftByFlush schema o j []) (mid_flush schema o j)
    (c.flush.ensures.crash o (written_all schema j.flushed) (written_all schema j.tail) h k.rests)

pub returns-clause-crash : goal.returns-clause-crash
returns-clause-crash g c = λ schema o j h k.
    weaker g.D.Disk.state g.D.Disk.possible c.args.d.now c.flush.new.d (MidFlush o (written_all schema j.flushed) (written_all schema j.tail)) (LeftByFlush schema o j []) (mid_flush schema o j)
    (c.flush.ensures.crash o (written_all schema j.flushed) (written_all schema j.tail) h k.rests)

pub returns-clause-flushed : goal.returns-clause-flushed
returns-clause-flushed g c = λ schema o j h k.
    flush_kept g.D.Disk.state g.D.Disk.possible c.flush.new.d schema o c.args.self.now _ j c.args.self.now.journal.least k
    (c.in_ok-flush.ensures.flushed o (written_all schema j.flushed) (written_all schema j.tail) h k.rests) c.in_ok-flush.ensures.place
