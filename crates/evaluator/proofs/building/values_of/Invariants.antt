-- The values so far, and those of the expressions that are left.
use Rattle.std.proofs.Common.{◌≡◌, ◌++◌, drop}
use Rattle.std.specs.Option.{option_map}
use Rattle.evaluator.specs.Writes.{values_of}
use Rattle.evaluator.proofs.building.values_of.Given as goal

abbrev pub invariant-loop-expr : goal.invariant-loop-expr
invariant-loop-expr g l =
    values_of l.fn.exprs (g.C.Columns.values l.fn.on) ≡ option_map (λ vs. l.values.items ++ vs) (values_of (drop l.expr-index l.fn.exprs) (g.C.Columns.values l.fn.on))
