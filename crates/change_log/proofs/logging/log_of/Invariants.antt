-- The log of the entries so far, and of those that are left.
use Rattle.std.proofs.Common.{◌≡◌, ◌++◌, drop}
use Rattle.change_log.specs.Steps.{logged_over, of_tables}
use Rattle.change_log.proofs.logging.log_of.Given as goal

abbrev pub invariant-loop-entry : goal.invariant-loop-entry
invariant-loop-entry l = l.out.items ++ of_tables l.tables (logged_over l.schema (drop l.entry-index l.entries)) ≡ of_tables l.tables (logged_over l.schema l.entries)
