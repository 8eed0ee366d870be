use Rattle.group_engine.proofs.UnloadDone.{sound_cut}
use Rattle.group_engine.proofs.UnloadKept.{cut_keyed, leaves_noted}
use Rattle.group_engine.proofs.unload_kept.cut_kept.Goals as goal

pub confirm-requires-clause-sound : goal.confirm-requires-clause-sound
confirm-requires-clause-sound c = sound_cut c.args.tier.now c.cut_group.new.tier c.args.aim.now c.args.all c.in-Ok.count c.requires c.in-Ok.ensures.ok

pub confirm-requires-clause-keyed : goal.confirm-requires-clause-keyed
confirm-requires-clause-keyed c =
    cut_keyed c.kept_rows_law.ensures.keyed c.args.tier.now c.cut_group.new.tier c.args.aim.now c.args.all c.in-Ok.count c.requires c.if-known.true c.in-Ok.ensures.ok

pub returns-then-known-clause-ok : goal.returns-then-known-clause-ok
returns-then-known-clause-ok c =
    leaves_noted c.args.tier.now c.cut_group.new.tier c.confirm.new.tier c.args.aim.now.place c.args.all _ c.in-Ok.ensures.ok c.confirm.ensures.same c.confirm.ensures.sound
