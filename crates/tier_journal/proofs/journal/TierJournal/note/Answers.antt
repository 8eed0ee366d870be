use Rattle.tier_journal.specs.Writing.{written_all}
use Rattle.tier_journal.proofs.BatchLaws.{spells_as}
use Rattle.tier_journal.proofs.KeepLaws.{noted}
use Rattle.tier_journal.proofs.journal.TierJournal.note.Goals as goal

pub returns-clause-noted : goal.returns-clause-noted
returns-clause-noted c = λ schema slots j entries k b.
    noted schema c.args.self.now _ slots j k entries b.tables
    (c.note_spelled.ensures.rest slots (written_all schema j.flushed) (written_all schema j.tail) (written_all schema entries)
    (spells_as c.args.self.now.journal.version schema c.args.batch.now entries b c.args.self.now.journal.standing c.requires.place c.deref.result.now c.deref.ensures.value) k.rests)
    c.note_spelled.ensures.same.gate c.note_spelled.ensures.same.generation
