-- All so far agree, so that those that are left tell.
use Rattle.std.proofs.Common.{◌≡◌, drop}
use Rattle.expressions.specs.Types.{all_agree}
use Rattle.expressions.proofs.typing.all_agree.Given as goal

abbrev pub invariant-loop-expr : goal.invariant-loop-expr
invariant-loop-expr l = all_agree l.family l.list l.columns ≡ all_agree l.family (drop l.expr-index l.list) l.columns
