use Rattle.std.proofs.Common.{◌-◌, ◌++◌, length, option_to_list}
use Rattle.sql_grammar.specs.Machine.{parts_of, view}
use Rattle.sql_grammar.specs.Verdict.{kinds_of}
use Rattle.sql_grammar.proofs.Run.{Reading}
use Rattle.sql_grammar.proofs.engine.recognize_by.Given as goal

abbrev pub invariant-loop-stack : goal.invariant-loop-stack
invariant-loop-stack l = Reading (view l.fn.grammar) (kinds_of l.tokens) l.i (parts_of (l.stack.items ++ option_to_list l.top))

abbrev pub decreases-loop-stack : goal.decreases-loop-stack
decreases-loop-stack l = length l.tokens - l.i
