use Rattle.std.proofs.Common.{None, [], subst}
use Rattle.cache_tier.specs.JournalSteps.{Flushes}
use Rattle.tier_journal.specs.KeptOver.{KeepsOver}
use Rattle.tier_journal.proofs.FlushLaws.{failed_over, flushed_over, flushes_nothing, still_over}
use Rattle.tier_journal.proofs.keeping.flush_tail.Goals as goal

pub returns-in-None-clause-flushes : goal.returns-in-None-clause-flushes
returns-in-None-clause-flushes g c = λ w now over.
    still_over g.D.Disk.state g.D.Disk.possible _ c.args.disk.now w None (Flushes []) now over
    (flushes_nothing g.D.Disk.state g.D.Disk.possible w [] (subst (λ k. KeepsOver g.D.Disk.state g.D.Disk.possible c.args.disk.now k w) c.in-None.is over))

pub returns-in-Ok-clause-flushes : goal.returns-in-Ok-clause-flushes
returns-in-Ok-clause-flushes g c = λ w now over.
    let it = subst (λ k. KeepsOver g.D.Disk.state g.D.Disk.possible c.args.disk.now k w) c.in-Some.is over in
    flushed_over g.D.Disk.state g.D.Disk.possible c.in-Some.journal _ c.args.disk.now c.flush.new.d w [] now it c.flush.ensures.moment
    (c.in-Ok.ensures.flushed w.tier.schema it.there w.journal it.certain it.keeps) c.in-Ok.ensures.version
    (c.flush.ensures.crash w.tier.schema it.there w.journal it.certain it.keeps)

pub returns-in-Err-clause-flushes : goal.returns-in-Err-clause-flushes
returns-in-Err-clause-flushes g c = λ w now over.
    let it = subst (λ k. KeepsOver g.D.Disk.state g.D.Disk.possible c.args.disk.now k w) c.in-Some.is over in
    failed_over g.D.Disk.state g.D.Disk.possible g.met.D.Disk.read_possible c.in-Some.journal _ c.args.disk.now c.flush.new.d w [] c.faulty.result now it tt c.flush.ensures.tells
    (c.flush.ensures.crash w.tier.schema it.there w.journal it.certain it.keeps) c.faulty.ensures
