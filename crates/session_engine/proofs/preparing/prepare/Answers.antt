use Rattle.std.proofs.Common.{Err, Ok}
use Rattle.cache_tier.specs.Shown.{seen_by}
use Rattle.session_engine.proofs.SeenStates.{sees}
use Rattle.session_engine.proofs.WriteLaws.{effects_done, effects_refused, gives_over}
use Rattle.session_engine.proofs.preparing.prepare.Goals as goal

pub returns-in-Err-clause-prepared : goal.returns-in-Err-clause-prepared
returns-in-Err-clause-prepared c = λ w s is shows has.
    let sight = sees c.tier_law.ensures.over_is_applied c.label_law.ensures.number c.args.tier.now c.args.id s w
    c.requires.sound (c.requires.sound.verified c.requires.verified) shows has in
    effects_refused s c.args.change.now w c.in-Err.refused
    (gives_over w.tier s c.args.change.now sight.state (seen_by s w.history w.tier) (Err c.in-Err.refused) sight.is
    (c.in-Err.ensures.prepared w.tier s sight.state is has sight.applied))

pub returns-in-Ok-clause-prepared : goal.returns-in-Ok-clause-prepared
returns-in-Ok-clause-prepared c = λ w s is shows has.
    let sight = sees c.tier_law.ensures.over_is_applied c.label_law.ensures.number c.args.tier.now c.args.id s w
    c.requires.sound (c.requires.sound.verified c.requires.verified) shows has in
    effects_done s c.args.change.now w c.in-Ok.ops
    (gives_over w.tier s c.args.change.now sight.state (seen_by s w.history w.tier) (Ok c.in-Ok.ops) sight.is
    (c.in-Ok.ensures.prepared w.tier s sight.state is has sight.applied))
