-- The root keys so far, and those of the rows that are left.
use Rattle.std.proofs.Common.{◌≡◌, ◌++◌, drop}
use Rattle.statement_uses.specs.Uses.{roots_of_rows}
use Rattle.statement_uses.proofs.querying.roots_of_rows.Given as goal

abbrev pub invariant-loop-row : goal.invariant-loop-row
invariant-loop-row g l =
    l.roots.items ++ roots_of_rows (g.S.Scan.state l.scan) l.tree (drop l.row-index l.rows) ≡ roots_of_rows (g.S.Scan.state l.scan) l.tree l.rows
