use Rattle.std.proofs.Common.{[], subst}
use Rattle.outside.proofs.Moments.{weaker}
use Rattle.cache_tier.specs.Journals.{Journal}
use Rattle.tier_journal.specs.Keeping.{KeepsOn, with_tail}
use Rattle.tier_journal.specs.Leaving.{LeftByFlush}
use Rattle.tier_journal.proofs.KeepLaws.{flush_noted, mid_noted}
use Rattle.tier_journal.proofs.journal.TierJournal.flush_with.Goals as goal

pub returns-in_err-flush-clause-crash : goal.returns-in_err-flush-clause-crash
returns-in_err-flush-clause-crash g c = λ schema o j entries h k b.
    weaker g.D.Disk.state g.D.Disk.possible c.args.d.now c.flush.new.d (LeftByFlush schema o (with_tail entries j) []) (LeftByFlush schema o j entries) (mid_noted schema o j entries)
    (c.flush.ensures.crash schema o (with_tail entries j) h (c.note.ensures.noted schema o.slots j entries k b))

pub returns-clause-crash : goal.returns-clause-crash
returns-clause-crash g c = λ schema o j entries h k b.
    weaker g.D.Disk.state g.D.Disk.possible c.args.d.now c.flush.new.d (LeftByFlush schema o (with_tail entries j) []) (LeftByFlush schema o j entries) (mid_noted schema o j entries)
    (c.flush.ensures.crash schema o (with_tail entries j) h (c.note.ensures.noted schema o.slots j entries k b))

pub returns-clause-flushed : goal.returns-clause-flushed
returns-clause-flushed g c = λ schema o j entries h k b.
    subst (λ (x : Journal). KeepsOn g.D.Disk.state g.D.Disk.possible c.flush.new.d schema c.flush.new.self o x) (flush_noted schema j entries)
    (c.in_ok-flush.ensures.flushed schema o (with_tail entries j) h (c.note.ensures.noted schema o.slots j entries k b))
