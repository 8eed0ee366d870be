use Rattle.journal_entries.proofs.BodyLaws.{behind_step}
use Rattle.journal_entries.proofs.standing.Standing.behind_all.Goals as goal

pub loop-entry-preserved : goal.loop-entry-preserved
loop-entry-preserved c = behind_step c.args.self c.loop-entry.standing c.behind-standing.result c.args.entries.now c.loop-entry.entry-index c.entry-item.result c.entry-item.is c.loop-entry-test.true c.behind-standing.ensures c.loop-entry.invariant
