-- The uses of the groups so far.
use Rattle.group_catalog.specs.Catalogs.{groups_in}
use Rattle.statement_uses.specs.Uses.{keeps_order, roots_of_ops}
use Rattle.statement_uses.proofs.GroupLists.{HaveSome, IsOf}
use Rattle.statement_uses.proofs.changing.used_by_ops.Given as goal

abbrev pub invariant-loop-place : goal.invariant-loop-place
invariant-loop-place g l =
    HaveSome (IsOf keeps_order (groups_in l.catalog) (λ group. roots_of_ops l.ops (g.S.Scan.state l.scan) group.def.tree)) l.uses.items l.place
