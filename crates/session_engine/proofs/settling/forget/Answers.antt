use Rattle.std.proofs.Common.{refl}
use Rattle.stored_tier.proofs.SessionLaws.{own_rested, sound_behind}
use Rattle.session_engine.proofs.settling.forget.Goals as goal

pub returns-clause-forgets : goal.returns-clause-forgets
returns-clause-forgets c = record { rest = refl; seen = c.rest.ensures.seen c.args.tier.now.schema c.requires.sessions }

pub returns-clause-sound : goal.returns-clause-sound
returns-clause-sound c =
    sound_behind c.args.tier.now c.rest.new.self c.requires (c.rest.ensures.sound c.args.tier.now.schema c.requires.sessions)
    (λ is. own_rested c.args.tier.now c.rest.new.self c.args.id is (c.rest.ensures.seen c.args.tier.now.schema c.requires.sessions))
