use Rattle.session_engine.proofs.AtOnceDone.{sound_drawn}
use Rattle.session_engine.proofs.at_once.draw.Goals as goal

pub returns-in-Ok-clause-sound : goal.returns-in-Ok-clause-sound
returns-in-Ok-clause-sound c = sound_drawn c.make_ready.new.tier c.in-Ok.ensures.sound
