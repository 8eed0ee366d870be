use Rattle.commit_journal.specs.declared.head.Head.TheVariants.{Dead}
use Rattle.commit_journal.proofs.KeepLaws.{second_damage}
use Rattle.commit_journal.proofs.opening.open_second.Goals as goal

pub returns-in_ok-opened-in-Faulty-clause-opened : goal.returns-in_ok-opened-in-Faulty-clause-opened
returns-in_ok-opened-in-Faulty-clause-opened g c = λ o h have slen mine their.
    second_damage g.D.Disk.state g.D.Disk.possible c.args.d.now c.args.d.now o h c.in_ok-opened-in-Faulty.opened c.in-Faulty.place Dead c.args.second mine (λ p e. absurd cc) their c.in-Faulty.is c.in_ok-opened-in-Faulty.ensures.told
