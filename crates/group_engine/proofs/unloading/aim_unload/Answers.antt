use Rattle.std.proofs.Common.{sym}
use Rattle.group_catalog.specs.Kept.{group_seen}
use Rattle.group_engine.specs.Unloading.{unload_state}
use Rattle.group_engine.proofs.UnloadAims.{unknown_unload, unload_aimed}
use Rattle.group_engine.proofs.unloading.aim_unload.Goals as goal

pub returns-in-None : goal.returns-in-None
returns-in-None c = λ a s is has. unknown_unload c.args.tier.now a s c.args.unload.now c.about.result is (sym c.in-None.ensures) c.about.ensures

pub returns-in-Some-get-2 : goal.returns-in-Some-get-2
returns-in-Some-get-2 c = λ a s is has.
    unload_aimed c.label_law.ensures.number c.args.tier.now a s c.args.id c.args.unload.now c.in-Some.place (group_seen c.in-Some-get.group.now) c.in-Some-get-2.def.now
    c.ops-own.result.now c.is_read_only.result c.aim_by.result c.requires is has (sym c.in-Some.ensures) (sym c.in-Some-get.ensures) (sym c.in-Some-get-2.ensures)
    c.ops-own.ensures c.is_read_only.ensures
    (c.aim_by.ensures (unload_state c.args.unload.now.which c.ops-own.result.now (group_seen c.in-Some-get.group.now)) c.judge_unload-state.ensures)
