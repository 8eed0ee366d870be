use Rattle.group_engine.proofs.AimLaws.{aimed_with, unknown_aimed}
use Rattle.group_engine.proofs.aiming.find_aim.Goals as goal

pub returns-in-None : goal.returns-in-None
returns-in-None c = λ a s is has.
    unknown_aimed c.args.tier.now a s c.args.refreshes c.args.load.now c.about.result is c.in-None.ensures c.about.ensures

pub returns-in-Some-get-2 : goal.returns-in-Some-get-2
returns-in-Some-get-2 c = λ a s is has.
    aimed_with c.label_law.ensures.number c.args.tier.now a s c.args.id c.args.refreshes c.args.load.now c.in-Some.place _ c.in-Some-get-2.def.now
    c.ops-own.result.now c.is_read_only.result c.aim_by.result c.requires is has c.in-Some.ensures c.in-Some-get.ensures
    c.in-Some-get-2.ensures c.ops-own.ensures c.is_read_only.ensures (c.aim_by.ensures _ c.judge_state-state.ensures)
