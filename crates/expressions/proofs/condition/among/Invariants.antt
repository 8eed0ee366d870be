-- What those that are left make of the truth so far.
use Rattle.std.proofs.Common.{◌≡◌, Some, drop}
use Rattle.expressions.specs.Conditions.{among, one_holds}
use Rattle.expressions.specs.Operands.{shown}
use Rattle.expressions.proofs.condition.among.Given as goal

abbrev pub invariant-loop-expr : goal.invariant-loop-expr
invariant-loop-expr g l =
    among (shown l.value) l.list (g.C.Columns.values l.columns)
    ≡ one_holds (Some l.truth) (among (shown l.value) (drop l.expr-index l.list) (g.C.Columns.values l.columns))
