-- What leaves with the row so far: in the tables so far, and of one table's rows so far.
use Rattle.std.proofs.Common.{◌≡◌, ◌+◌, ◌-◌, ◌*◌, take, slice_get}
use Rattle.std.specs.List.{filter, flat_map}
use Rattle.std.specs.FinMap.{values}
use Rattle.table_state.specs.ScanChildren.{refers_to}
use Rattle.table_state.specs.Tables.{table_at}
use Rattle.evaluator.specs.Capping.{extended}
use Rattle.evaluator.specs.Cascades.{deleted, key_in, referring}
use Rattle.evaluator.proofs.cascade.+cascade.Given as goal

abbrev pub invariant-delete_row-loop-child : goal.invariant-delete_row-loop-child
invariant-delete_row-loop-child g l =
    l.out ≡ extended l.fn.out (flat_map (λ child. flat_map (deleted (l.fn.depth - 1) (g.S.Scan.state l.fn.scan) child) (referring (g.S.Scan.state l.fn.scan) (key_in (slice_get (g.S.Scan.state l.fn.scan).schema l.fn.table.0) l.fn.row) child)) (take l.child-index l.child-items))

abbrev pub invariant-delete_children-loop-from : goal.invariant-delete_children-loop-from
invariant-delete_children-loop-from g l =
    l.out ≡ extended l.fn.out (flat_map (deleted l.fn.depth (g.S.Scan.state l.fn.scan) l.fn.child) (filter (refers_to l.fn.key (slice_get (g.S.Scan.state l.fn.scan).schema l.fn.child.0)) (take l.from (values (table_at (g.S.Scan.state l.fn.scan) l.fn.child)))))

abbrev pub decreases-delete_children-loop-from : goal.decreases-delete_children-loop-from
decreases-delete_children-loop-from g l = l.end - l.from

abbrev pub decreases-delete_row : goal.decreases-delete_row
decreases-delete_row g l = 2 * l.depth

abbrev pub decreases-delete_children : goal.decreases-delete_children
decreases-delete_children g l = 2 * l.depth + 1
