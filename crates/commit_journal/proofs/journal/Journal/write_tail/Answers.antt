use Rattle.std.proofs.Common.{refl, ◌∙◌}
use Rattle.std.proofs.Common.{rules}
use Rattle.commit_journal.proofs.TailLaws.{flush_crash, flush_done}
use Rattle.commit_journal.proofs.journal.Journal.write_tail.Goals as goal

pub returns-in_err-outcome-clause-crash : goal.returns-in_err-outcome-clause-crash
returns-in_err-outcome-clause-crash g c = λ o flushed tail h r.
    flush_crash g.D.Disk.state g.D.Disk.possible c.args.d.now c.args.self.now o flushed tail h r c.deref.result.now (c.deref.ensures.value ∙ c.seal.ensures.items) c.write_batch-outcome.new.d c.write_batch-outcome.ensures.crash

pub returns-clause-crash : goal.returns-clause-crash
returns-clause-crash g c = λ o flushed tail h r.
    flush_crash g.D.Disk.state g.D.Disk.possible c.args.d.now c.args.self.now o flushed tail h r c.deref.result.now (c.deref.ensures.value ∙ c.seal.ensures.items) c.write_batch-outcome.new.d c.write_batch-outcome.ensures.crash

pub returns-clause-flushed : goal.returns-clause-flushed
returns-clause-flushed g c = λ o flushed tail h r.
    flush_done g.D.Disk.state g.D.Disk.possible c.args.d.now c.args.self.now o flushed tail h r c.deref.result.now (c.deref.ensures.value ∙ c.seal.ensures.items) c.write_batch-outcome.new.d c.in_ok-outcome.ensures.batch
    _ refl refl refl (search rules) refl (search rules)
