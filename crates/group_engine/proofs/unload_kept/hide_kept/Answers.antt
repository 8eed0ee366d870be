use Rattle.group_engine.proofs.UnloadHidden.{sound_hidden}
use Rattle.group_engine.proofs.UnloadKept.{hiding_keyed, hiding_noted}
use Rattle.group_engine.proofs.unload_kept.hide_kept.Goals as goal

pub confirm-requires-clause-sound : goal.confirm-requires-clause-sound
confirm-requires-clause-sound c = sound_hidden c.args.tier.now c.cut_hiding.new.tier c.args.aim.now c.in-Ok.count c.requires.sound c.requires.hides c.in-Ok.ensures.ok

pub confirm-requires-clause-keyed : goal.confirm-requires-clause-keyed
confirm-requires-clause-keyed c =
    hiding_keyed c.kept_rows_law.ensures.keyed c.args.tier.now c.cut_hiding.new.tier c.args.aim.now c.in-Ok.count c.requires.sound c.if-known.true c.in-Ok.ensures.ok

pub returns-then-known-clause-ok : goal.returns-then-known-clause-ok
returns-then-known-clause-ok c =
    hiding_noted c.args.tier.now c.cut_hiding.new.tier c.confirm.new.tier c.args.aim.now c.in-Ok.count c.in-Ok.ensures.ok c.confirm.ensures.same c.confirm.ensures.sound
