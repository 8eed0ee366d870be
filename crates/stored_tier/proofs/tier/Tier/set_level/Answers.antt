use Rattle.std.proofs.Common.{Some, refl}
use Rattle.session_state.specs.Sessions.{with_flag}
use Rattle.stored_tier.proofs.SessionLaws.{own_flagged, session_changed, sound_behind}
use Rattle.stored_tier.proofs.tier.Tier.set_level.Goals as goal

pub returns-clause-answers : goal.returns-clause-answers
returns-clause-answers c = λ a s is has. (
  refl,
  session_changed c.label_law.ensures.change c.args.self.now c.set_flag.new.self a s c.args.id (with_flag c.args.level)
      (λ s. record s { flag = Some c.args.level }) (λ x. refl) c.requires is has
      (c.set_flag.ensures.seen c.args.self.now.schema c.requires.sessions),
  c.done.ensures,
)

pub returns-clause-sound : goal.returns-clause-sound
returns-clause-sound c =
    sound_behind c.args.self.now c.set_flag.new.self c.requires
    (c.set_flag.ensures.sound c.args.self.now.schema c.requires.sessions)
    (λ is. own_flagged c.args.self.now c.set_flag.new.self c.args.id c.args.level is
    (c.set_flag.ensures.seen c.args.self.now.schema c.requires.sessions))
