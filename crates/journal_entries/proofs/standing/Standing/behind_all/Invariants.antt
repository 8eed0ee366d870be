use Rattle.std.proofs.Common.{◌≡◌, drop}
use Rattle.journal_entries.specs.Bodies.{behind_all}
use Rattle.journal_entries.proofs.standing.Standing.behind_all.Given as goal

abbrev pub invariant-loop-entry : goal.invariant-loop-entry
invariant-loop-entry l = behind_all l.standing (drop l.entry-index l.entries) ≡ behind_all l.fn.self l.entries
