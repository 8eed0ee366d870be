use Rattle.cache_engine.proofs.GrowingLaws.{learns, sound_learned}
use Rattle.cache_engine.proofs.growing.learn.Goals as goal

pub returns-clause-learns : goal.returns-clause-learns
returns-clause-learns c = learns c.args.tier.now c.args.schema c.args.visible c.args.directory c.requires.grown

pub returns-clause-sound : goal.returns-clause-sound
returns-clause-sound c =
    sound_learned c.grown_law.ensures c.args.tier.now c.args.schema c.args.visible c.args.directory c.requires.sound
    c.requires.grown
