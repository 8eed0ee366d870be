use Rattle.outside.proofs.Moments.{and_then}
use Rattle.commit_journal.specs.Opening.{Keeps}
use Rattle.commit_journal.proofs.LookLaws.{kept_then}
use Rattle.commit_journal.proofs.looking.look.Goals as goal

pub returns-in_err-looked-clause-crash : goal.returns-in_err-looked-clause-crash
returns-in_err-looked-clause-crash g c = λ o h have.
    let s = c.in_ok-found.ensures.found o h.told in
    let n = c.in_ok-opened.ensures.opened o s have in
    let keeps = and_then g.D.Disk.state g.D.Disk.possible c.args.d.now c.survey.new.d c.open_surveyed.new.d (Keeps o) (c.survey.ensures.crash o h have) (c.open_surveyed.ensures.crash o s have) in
    kept_then g.D.Disk.state g.D.Disk.possible c.args.d.now c.open_surveyed.new.d c.with_bodies.new.d o n.now keeps n.certain (g.met.D.Disk.read_possible c.open_surveyed.new.d n.now n.certain.told) c.with_bodies.ensures.rests

pub returns-clause-crash : goal.returns-clause-crash
returns-clause-crash g c = λ o h have.
    let s = c.in_ok-found.ensures.found o h.told in
    let n = c.in_ok-opened.ensures.opened o s have in
    let keeps = and_then g.D.Disk.state g.D.Disk.possible c.args.d.now c.survey.new.d c.open_surveyed.new.d (Keeps o) (c.survey.ensures.crash o h have) (c.open_surveyed.ensures.crash o s have) in
    kept_then g.D.Disk.state g.D.Disk.possible c.args.d.now c.open_surveyed.new.d c.with_bodies.new.d o n.now keeps n.certain (g.met.D.Disk.read_possible c.open_surveyed.new.d n.now n.certain.told) c.with_bodies.ensures.rests

pub returns-clause-looked : goal.returns-clause-looked
returns-clause-looked g c = λ o told have.
    let n = c.in_ok-opened.ensures.opened o (c.in_ok-found.ensures.found o told) have in
    record { now = n.now; certain = (c.with_bodies.ensures.rests n.now n.certain).0; beside = n.beside; shows = c.in_ok-looked.ensures.shows o n.now n.certain n.reads n.rests }
