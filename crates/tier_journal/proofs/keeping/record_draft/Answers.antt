use Rattle.std.proofs.Common.{None, Some, subst, sym, true, false}
use Rattle.cache_tier.specs.JournalSteps.{Records}
use Rattle.tier_journal.specs.KeptOver.{IsWrittenOver}
use Rattle.tier_journal.proofs.FlushLaws.{fits_failed, fits_flushed, fits_noted, unkept_recorded}
use Rattle.tier_journal.proofs.keeping.record_draft.Goals as goal

pub returns-then-not-durable-clause-records : goal.returns-then-not-durable-clause-records
returns-then-not-durable-clause-records g c = λ e w now over draft.
    subst (λ b. IsWrittenOver g.D.Disk.state g.D.Disk.possible (Some c.note.new.self) c.args.disk.now c.args.disk.now None (Records b e) w) (sym c.if-not-durable.true)
    (fits_noted g.D.Disk.state g.D.Disk.possible c.args.journal.now c.in-Some.journal c.args.disk.now w c.args.draft.now c.in-Fits.batch e c.in-Some.is c.in-Fits.is over draft
    c.note.new.self now c.note.ensures.noted c.note.ensures.version)

pub returns-in-Unkept-clause-records : goal.returns-in-Unkept-clause-records
returns-in-Unkept-clause-records g c = λ e w now over draft.
    unkept_recorded g.D.Disk.state g.D.Disk.possible c.args.journal.now c.args.disk.now w c.args.draft.now e c.args.durable c.in-Unkept.is now over draft

pub returns-in-Ok-clause-records : goal.returns-in-Ok-clause-records
returns-in-Ok-clause-records g c = λ e w now over draft.
    subst (λ b. IsWrittenOver g.D.Disk.state g.D.Disk.possible (Some c.flush_with.new.self) c.args.disk.now c.flush_with.new.d None (Records b e) w) (sym c.if-not-durable.false)
    (fits_flushed g.D.Disk.state g.D.Disk.possible c.args.journal.now c.in-Some.journal c.args.disk.now w c.args.draft.now c.in-Fits.batch e c.in-Some.is c.in-Fits.is over draft
    c.flush_with.new.self c.flush_with.new.d now c.flush_with.ensures.moment c.in-Ok.ensures.flushed c.in-Ok.ensures.version c.flush_with.ensures.crash)

pub returns-in-Err-clause-records : goal.returns-in-Err-clause-records
returns-in-Err-clause-records g c = λ e w now over draft.
    subst (λ b. IsWrittenOver g.D.Disk.state g.D.Disk.possible (Some c.flush_with.new.self) c.args.disk.now c.flush_with.new.d (Some c.faulty.result) (Records b e) w) (sym c.if-not-durable.false)
    (fits_failed g.D.Disk.state g.D.Disk.possible c.args.journal.now c.in-Some.journal c.args.disk.now w c.args.draft.now c.in-Fits.batch e c.in-Some.is c.in-Fits.is over draft
    g.met.D.Disk.read_possible c.flush_with.new.self c.flush_with.new.d c.faulty.result now c.flush_with.ensures.tells c.flush_with.ensures.crash c.faulty.ensures)
