use Rattle.session_engine.proofs.HeldLaws.{own_held}
use Rattle.stored_tier.proofs.SessionLaws.{sound_behind}
use Rattle.session_engine.proofs.holding.hold.Goals as goal

pub returns-clause-sound : goal.returns-clause-sound
returns-clause-sound c =
    sound_behind c.args.tier.now c.write.new.self c.requires.sound c.write.ensures.sound
    (own_held c.args.tier.now c.write.new.self c.args.id c.args.ops c.requires.sound c.requires.unbroken c.in_ok-write.ensures.ok)
