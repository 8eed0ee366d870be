use Rattle.std.proofs.Common.{◌∙◌, refl, sym}
use Rattle.group_catalog.specs.Kept.{group_seen}
use Rattle.group_engine.proofs.UnloadDone.{group_cut}
use Rattle.group_engine.proofs.unloading.cut_group.Goals as goal

pub returns-in-Ok-clause-ok : goal.returns-in-Ok-clause-ok
returns-in-Ok-clause-ok c =
    group_cut c.args.tier.now (record c.args.tier.now { stores = c.cut_at.new.stores }) c.clear_flag.new.tier c.args.aim.now c.args.all c.in-Ok.count
    (group_seen c.in-Some.group.now) c.in-Some-get.def.now c.in-Some-get.def.now.primary_key (sym c.in-Some.ensures)
    (sym c.hides_keys.ensures ∙ c.if-hides_keys.false)
    (sym c.in-Some-get.ensures) refl
    c.in-Ok.ensures.ok refl c.clear_flag.ensures.same c.clear_flag.ensures.groups
