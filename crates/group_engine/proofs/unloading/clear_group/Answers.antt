use Rattle.std.proofs.Common.{refl, sym}
use Rattle.group_catalog.specs.Kept.{group_seen}
use Rattle.group_engine.proofs.UnloadDone.{group_cleared}
use Rattle.group_engine.proofs.unloading.clear_group.Goals as goal

pub returns-else-place-len-2-clause-ok : goal.returns-else-place-len-2-clause-ok
returns-else-place-len-2-clause-ok c =
    group_cleared c.args.tier.now (record c.args.tier.now { stores = c.clear_at-count.new.stores }) c.clear_flag.new.tier c.args.place c.clear_at-count.result
    (group_seen c.in-Some.group.now) (sym c.in-Some.ensures)
    (c.is_listed_at.ensures c.if-is_listed_at.false (group_seen c.in-Some.group.now) (sym c.in-Some.ensures))
    c.clear_at-count.ensures refl c.clear_flag.ensures.same c.clear_flag.ensures.groups
