use Rattle.outside.proofs.Moments.{weaker}
use Rattle.std.proofs.Common.{subst, List, ℕ, length}
use Rattle.journal_entries.specs.Bodies.{beginning}
use Rattle.commit_journal.specs.Turning.{HasRenewed, MidRotation}
use Rattle.tier_journal.specs.Leaving.{LeftByRotation}
use Rattle.tier_journal.specs.Writing.{written_all}
use Rattle.tier_journal.proofs.BatchLaws.{spells_as}
use Rattle.tier_journal.proofs.KeepLaws.{mid_rotation, rotate_kept}
use Rattle.tier_journal.proofs.journal.TierJournal.rotate.Goals as goal

pub returns-in_err-renew-clause-crash : goal.returns-in_err-renew-clause-crash
returns-in_err-renew-clause-crash g c = λ schema o j entries h k b.
    weaker g.D.Disk.state g.D.Disk.possible c.args.d.now c.renew.new.d (MidRotation o (written_all schema j.flushed) (written_all schema entries)) (LeftByRotation schema o j entries) (mid_rotation schema o j entries)
    (c.renew.ensures.crash o (written_all schema j.flushed) (written_all schema j.tail) (written_all schema entries) h k.rests (spells_as 2 schema c.args.batch.now entries b beginning c.requires c.deref.result.now c.deref.ensures.value))

pub returns-clause-crash : goal.returns-clause-crash
returns-clause-crash g c = λ schema o j entries h k b.
    weaker g.D.Disk.state g.D.Disk.possible c.args.d.now c.renew.new.d (MidRotation o (written_all schema j.flushed) (written_all schema entries)) (LeftByRotation schema o j entries) (mid_rotation schema o j entries)
    (c.renew.ensures.crash o (written_all schema j.flushed) (written_all schema j.tail) (written_all schema entries) h k.rests (spells_as 2 schema c.args.batch.now entries b beginning c.requires c.deref.result.now c.deref.ensures.value))

pub returns-clause-rotated : goal.returns-clause-rotated
returns-clause-rotated g c = λ schema o j entries h k b.
    rotate_kept g.D.Disk.state g.D.Disk.possible c.renew.new.d schema o c.args.self.now _ j c.args.batch.now entries k b
    (c.in_ok-renew.ensures.moved o (written_all schema j.flushed) (written_all schema j.tail) (written_all schema entries) h k.rests (spells_as 2 schema c.args.batch.now entries b beginning c.requires c.deref.result.now c.deref.ensures.value))
    (subst (λ (l : List ℕ). HasRenewed c.args.self.now.journal c.renew.new.self (length l)) c.deref.ensures.value c.in_ok-renew.ensures.place)
