-- What comes first from here on comes first at all.
use Rattle.std.proofs.Common.{◌≡◌, ◌-◌, drop}
use Rattle.std.specs.List.{slice_get}
use Rattle.std.specs.FinMap.{entries}
use Rattle.table_state.specs.indexed_rows.specs.Rows.{first_from}
use Rattle.table_state.specs.Children.{refers_to}
use Rattle.table_state.specs.Tables.{table_at}
use Rattle.own_rows.specs.Next.{stays_and}
use Rattle.own_rows.proofs.children.next_under.Given as goal

abbrev pub invariant-loop-at : goal.invariant-loop-at
invariant-loop-at g l =
    first_from (stays_and (refers_to l.fn.key (slice_get (g.S.Scan.state l.fn.under).schema l.fn.table.0)) l.fn.own.live l.fn.own.gone) l.fn.from (drop l.fn.from (entries (table_at (g.S.Scan.state l.fn.under) l.fn.table)))
    ≡ first_from (stays_and (refers_to l.fn.key (slice_get (g.S.Scan.state l.fn.under).schema l.fn.table.0)) l.fn.own.live l.fn.own.gone) l.at (drop l.at (entries (table_at (g.S.Scan.state l.fn.under) l.fn.table)))

abbrev pub decreases-loop-at : goal.decreases-loop-at
decreases-loop-at g l = l.count - l.at
