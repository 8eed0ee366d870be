use Rattle.std.proofs.Common.{refl}
use Rattle.stored_tier.proofs.SessionLaws.{own_left, session_left, sound_behind}
use Rattle.stored_tier.proofs.tier.Tier.close.Goals as goal

pub returns-clause-answers : goal.returns-clause-answers
returns-clause-answers c = λ a s is has. (
  refl,
  session_left c.label_law.ensures.closed c.args.self.now c.close.new.self a s c.args.id c.requires is has
      (c.close.ensures.seen c.args.self.now.schema c.requires.sessions),
  c.done.ensures,
)

pub returns-clause-sound : goal.returns-clause-sound
returns-clause-sound c =
    sound_behind c.args.self.now c.close.new.self c.requires
    (c.close.ensures.sound c.args.self.now.schema c.requires.sessions)
    (λ is. own_left c.args.self.now c.close.new.self c.args.id is
    (c.close.ensures.seen c.args.self.now.schema c.requires.sessions))
