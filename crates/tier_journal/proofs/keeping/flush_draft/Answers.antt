use Rattle.std.proofs.Common.{None, Some, [], ◌∷◌}
use Rattle.tier_journal.proofs.FlushLaws.{fits_failed, fits_flushed, fitting_over, full_refused, not_full, unkept_flushed}
use Rattle.tier_journal.proofs.keeping.flush_draft.Goals as goal

pub returns-in-Unkept-clause-flushes : goal.returns-in-Unkept-clause-flushes
returns-in-Unkept-clause-flushes g c = λ e w now over draft.
    unkept_flushed g.D.Disk.state g.D.Disk.possible c.args.journal.now c.args.disk.now w c.args.draft.now e c.in-Unkept.is now over draft

pub returns-in-Full-clause-flushes : goal.returns-in-Full-clause-flushes
returns-in-Full-clause-flushes g c = λ e w now over draft.
    full_refused g.D.Disk.state g.D.Disk.possible c.args.journal.now c.args.disk.now w c.args.draft.now e c.slot_is_full.result c.in-Full.is now over draft c.slot_is_full.ensures

pub returns-in-Ok-clause-flushes : goal.returns-in-Ok-clause-flushes
returns-in-Ok-clause-flushes g c = λ e w now over draft.
    fitting_over g.D.Disk.state g.D.Disk.possible (Some c.flush_with.new.self) c.args.disk.now c.flush_with.new.d w (e ∷ []) None
    (not_full g.D.Disk.state g.D.Disk.possible c.args.journal.now c.in-Some.journal c.args.disk.now w c.args.draft.now c.in-Fits.batch e c.in-Some.is c.in-Fits.is over draft)
    (fits_flushed g.D.Disk.state g.D.Disk.possible c.args.journal.now c.in-Some.journal c.args.disk.now w c.args.draft.now c.in-Fits.batch e c.in-Some.is c.in-Fits.is over draft
    c.flush_with.new.self c.flush_with.new.d now c.flush_with.ensures.moment c.in-Ok.ensures.flushed c.in-Ok.ensures.version c.flush_with.ensures.crash)

pub returns-in-Err-clause-flushes : goal.returns-in-Err-clause-flushes
returns-in-Err-clause-flushes g c = λ e w now over draft.
    fitting_over g.D.Disk.state g.D.Disk.possible (Some c.flush_with.new.self) c.args.disk.now c.flush_with.new.d w (e ∷ []) (Some c.faulty.result)
    (not_full g.D.Disk.state g.D.Disk.possible c.args.journal.now c.in-Some.journal c.args.disk.now w c.args.draft.now c.in-Fits.batch e c.in-Some.is c.in-Fits.is over draft)
    (fits_failed g.D.Disk.state g.D.Disk.possible c.args.journal.now c.in-Some.journal c.args.disk.now w c.args.draft.now c.in-Fits.batch e c.in-Some.is c.in-Fits.is over draft
    g.met.D.Disk.read_possible c.flush_with.new.self c.flush_with.new.d c.faulty.result now c.flush_with.ensures.tells c.flush_with.ensures.crash c.faulty.ensures)
