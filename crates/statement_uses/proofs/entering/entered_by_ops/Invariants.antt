-- The keys of the groups so far.
use Rattle.group_catalog.specs.Catalogs.{groups_in}
use Rattle.statement_uses.proofs.EnteredLaws.{IsEntered}
use Rattle.statement_uses.proofs.GroupLists.{HaveSome}
use Rattle.statement_uses.proofs.entering.entered_by_ops.Given as goal

abbrev pub invariant-loop-place : goal.invariant-loop-place
invariant-loop-place l = HaveSome (IsEntered (groups_in l.catalog) l.stores l.ops) l.entered.items l.place
