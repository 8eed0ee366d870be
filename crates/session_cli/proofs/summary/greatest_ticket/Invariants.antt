-- The greatest of the entries so far.
use Rattle.std.proofs.Common.{◌≡◌, take}
use Rattle.session_cli.specs.Summaries.{greatest_ticket}
use Rattle.session_cli.proofs.summary.greatest_ticket.Given as goal

abbrev pub invariant-loop-entry : goal.invariant-loop-entry
invariant-loop-entry l = l.greatest ≡ greatest_ticket (take l.entry-index l.history)
