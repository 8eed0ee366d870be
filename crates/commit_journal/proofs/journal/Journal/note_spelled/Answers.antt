use Rattle.std.proofs.Common.{refl}
use Rattle.commit_journal.proofs.NoteLaws.{noted_all}
use Rattle.commit_journal.proofs.journal.Journal.note_spelled.Goals as goal

pub returns-clause-rest : goal.returns-clause-rest
returns-clause-rest c = λ slots flushed tail entries h r.
    noted_all c.args.self.now _ slots flushed tail entries c.args.bytes.now c.args.standing r h c.requires.room refl refl refl refl refl c.put_bytes.ensures.items c.args.self.now.least
