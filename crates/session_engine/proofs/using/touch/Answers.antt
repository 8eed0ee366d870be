use Rattle.std.proofs.Common.{refl}
use Rattle.session_engine.proofs.TouchedLaws.{sound_touched}
use Rattle.session_engine.proofs.using.touch.Goals as goal

pub returns-clause-sound : goal.returns-clause-sound
returns-clause-sound c = sound_touched c.args.tier.now _ c.args.uses.now c.requires (record { rest = refl; stores = c.touch_stores.ensures.touched })
