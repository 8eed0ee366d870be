-- The parts so far stand behind what was there.
use Rattle.std.proofs.Common.{◌≡◌, ◌++◌, take}
use Rattle.sql_words.specs.Words.{more, spaced}
use Rattle.sql_print.specs.Queries.{assignment_words}
use Rattle.sql_print.proofs.write.put_more_assignments.Given as goal

abbrev pub invariant-loop-assignment : goal.invariant-loop-assignment
invariant-loop-assignment l = l.out.items ≡ l.fn.out.items ++ spaced (more assignment_words (take l.assignment-index l.assignments))
