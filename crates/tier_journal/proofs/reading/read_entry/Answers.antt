use Rattle.std.proofs.Common.{subst, sym}
use Rattle.journal_entries.specs.declared.entry.Entry.{Entry}
use Rattle.tier_journal.specs.Reading.{IsRead}
use Rattle.tier_journal.proofs.reading.read_entry.Goals as goal

pub returns-in_ok-record-in-Defined : goal.returns-in_ok-record-in-Defined
returns-in_ok-record-in-Defined c =
    subst (λ (e : Entry). IsRead c.args.schema.now e c.in_ok-record-in-Defined.record) (sym c.in-Defined.is) (c.in_ok-record-in-Defined.ensures c.args.schema.now)
