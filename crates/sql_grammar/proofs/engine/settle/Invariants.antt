use Rattle.std.proofs.Common.{◌++◌, option_to_list}
use Rattle.sql_grammar.specs.declared.engine.Move.{Move}
use Rattle.sql_grammar.specs.Grammar.{Parts}
use Rattle.sql_grammar.specs.Decided.{weight_of}
use Rattle.sql_grammar.specs.Machine.{parts_of, Settles}
use Rattle.sql_grammar.specs.Sql.{rule, known}
use Rattle.sql_grammar.proofs.engine.settle.Given as goal

-- what settles the parts now settles the first ones
abbrev pub invariant-loop-done : goal.invariant-loop-done
invariant-loop-done l = (m : Move × Parts) → Settles rule l.next (parts_of (l.stack.items ++ option_to_list l.held)) m → Settles rule l.next (parts_of (l.initial.stack.items ++ option_to_list l.top)) m

abbrev pub decreases-loop-done : goal.decreases-loop-done
decreases-loop-done l = weight_of known (parts_of (l.stack.items ++ option_to_list l.held))
