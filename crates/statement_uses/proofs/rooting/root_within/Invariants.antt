-- The rows so far are there, and the key of the last one decides. One foreign key less is left.
use Rattle.std.proofs.Common.{◌≡◌}
use Rattle.instances.specs.Roots.{root_within}
use Rattle.statement_uses.proofs.rooting.root_within.Given as goal

abbrev pub invariant-loop-at : goal.invariant-loop-at
invariant-loop-at g l =
    root_within l.n (g.S.Scan.state l.scan) l.tree l.place l.key
    ≡ root_within l.left (g.S.Scan.state l.scan) l.tree l.at l.above

abbrev pub decreases-loop-at : goal.decreases-loop-at
decreases-loop-at g l = l.left
