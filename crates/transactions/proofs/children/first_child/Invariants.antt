-- No table so far has a child.
use Rattle.std.proofs.Common.{◌≡◌, drop}
use Rattle.evaluator.specs.table_state.specs.Refusals.{first_child}
use Rattle.transactions.proofs.children.first_child.Given as goal

abbrev pub invariant-loop-place : goal.invariant-loop-place
invariant-loop-place g l =
    first_child l.fn.table l.fn.key (g.S.Scan.state l.fn.scan).schema (g.S.Scan.state l.fn.scan).tables ≡ first_child l.fn.table l.fn.key (drop l.place (g.S.Scan.state l.fn.scan).schema) (drop l.place (g.S.Scan.state l.fn.scan).tables)
