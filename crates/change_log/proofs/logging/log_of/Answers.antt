use Rattle.change_log.specs.Steps.{logged_over, of_tables}
use Rattle.change_log.proofs.LoggingLaws.{entry_more}
use Rattle.change_log.proofs.logging.log_of.Goals as goal

pub loop-entry-preserved : goal.loop-entry-preserved
loop-entry-preserved c =
    entry_more c.args.tables.now c.args.schema.now c.args.entries.now c.loop-entry.entry-index c.entry-item.result c.loop-entry-test.true c.entry-item.is
    c.loop-entry.out.items c.add_entry.new.out.items (of_tables c.args.tables.now (logged_over c.args.schema.now c.args.entries.now)) c.loop-entry.invariant c.in_ok-add_entry.ensures
