use Rattle.std.proofs.Common.{refl}
use Rattle.session_state.specs.Sessions.{at_rest as rested}
use Rattle.cache_tier.specs.TierStates.{at_rest}
use Rattle.stored_tier.proofs.SessionLaws.{own_rested, session_changed, sound_behind}
use Rattle.stored_tier.proofs.tier.Tier.rollback.Goals as goal

pub returns-clause-answers : goal.returns-clause-answers
returns-clause-answers c = λ a s is has. (
  refl,
  session_changed c.label_law.ensures.change c.args.self.now c.rest.new.self a s c.args.id rested at_rest (λ x. refl) c.requires is has
      (c.rest.ensures.seen c.args.self.now.schema c.requires.sessions),
  c.done.ensures,
)

pub returns-clause-sound : goal.returns-clause-sound
returns-clause-sound c =
    sound_behind c.args.self.now c.rest.new.self c.requires
    (c.rest.ensures.sound c.args.self.now.schema c.requires.sessions)
    (λ is. own_rested c.args.self.now c.rest.new.self c.args.id is
    (c.rest.ensures.seen c.args.self.now.schema c.requires.sessions))
