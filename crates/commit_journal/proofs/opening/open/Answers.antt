use Rattle.std.proofs.Common.{sym, ◌∙◌}
use Rattle.outside.proofs.Moments.{and_then}
use Rattle.commit_journal.specs.Opening.{Keeps}
use Rattle.commit_journal.proofs.opening.open.Goals as goal

pub returns-in_err-opened-clause-crash : goal.returns-in_err-opened-clause-crash
returns-in_err-opened-clause-crash g c = λ o h have.
    and_then g.D.Disk.state g.D.Disk.possible c.args.d.now c.survey.new.d c.open_surveyed.new.d (Keeps o) (c.survey.ensures.crash o h have) (c.open_surveyed.ensures.crash o (c.in_ok-found.ensures.found o h.told) have)

pub returns-clause-crash : goal.returns-clause-crash
returns-clause-crash g c = λ o h have.
    and_then g.D.Disk.state g.D.Disk.possible c.args.d.now c.survey.new.d c.open_surveyed.new.d (Keeps o) (c.survey.ensures.crash o h have) (c.open_surveyed.ensures.crash o (c.in_ok-found.ensures.found o h.told) have)

pub returns-clause-opened : goal.returns-clause-opened
returns-clause-opened g c = λ o told have. c.in_ok-opened.ensures.opened o (c.in_ok-found.ensures.found o told) have

pub returns-clause-new : goal.returns-clause-new
returns-clause-new g c = λ o told blank.
    let s = c.in_ok-found.ensures.found o told in
    c.in_ok-opened.ensures.new (sym s.first ∙ blank.first) (sym s.second ∙ blank.second)
