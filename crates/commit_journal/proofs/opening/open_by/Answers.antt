use Rattle.commit_journal.proofs.KeepLaws.{first_damage}
use Rattle.commit_journal.proofs.opening.open_by.Goals as goal

pub returns-in_ok-opened-in-Faulty-clause-opened : goal.returns-in_ok-opened-in-Faulty-clause-opened
returns-in_ok-opened-in-Faulty-clause-opened g c = λ o h have flen slen mine their.
    first_damage g.D.Disk.state g.D.Disk.possible c.args.d.now c.args.d.now o h c.in_ok-opened-in-Faulty.opened c.in-Faulty.place c.args.first mine c.in-Faulty.is c.in_ok-opened-in-Faulty.ensures.told
