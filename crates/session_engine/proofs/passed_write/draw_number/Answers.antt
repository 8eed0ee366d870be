use Rattle.session_engine.proofs.AtOnceDone.{sound_drawn}
use Rattle.session_engine.proofs.passed_write.draw_number.Goals as goal

pub returns-clause-sound : goal.returns-clause-sound
returns-clause-sound c = sound_drawn c.args.tier.now c.requires.sound
