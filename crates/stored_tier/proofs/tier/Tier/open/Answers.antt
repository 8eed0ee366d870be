use Rattle.std.proofs.Common.{refl}
use Rattle.cache_tier.specs.SessionSteps.{open_answer}
use Rattle.stored_tier.proofs.SessionLaws.{full_refused, name_refused, none_broken, opened, own_pushed, own_same, sound_behind}
use Rattle.stored_tier.proofs.tier.Tier.open.Goals as goal

pub returns-in-Ok-clause-answers : goal.returns-in-Ok-clause-answers
returns-in-Ok-clause-answers c = λ a is. (
  none_broken c.args.self.now c.open.new.self a c.in-Ok.field-0 c.args.label.now c.args.options is c.in-Ok.ensures.ok,
  opened c.args.self.now c.open.new.self a c.in-Ok.field-0 c.args.label.now c.args.options is c.in-Ok.ensures.ok,
  c.done.ensures,
)

pub returns-in-Ok-clause-sound : goal.returns-in-Ok-clause-sound
returns-in-Ok-clause-sound c =
    sound_behind c.args.self.now c.open.new.self c.requires
    (c.open.ensures.sound c.args.self.now.schema c.requires.sessions)
    (λ is. own_pushed c.args.self.now c.open.new.self _ is c.in-Ok.ensures.ok.seen refl)

pub returns-in_ok-refuse_label-in-Err-Label-clause-answers :
    goal.returns-in_ok-refuse_label-in-Err-Label-clause-answers
returns-in_ok-refuse_label-in-Err-Label-clause-answers c = λ a is.
    let used = rw c.in-Err-Label.field-0-is at c.in-Err-Label.ensures.cause in
    rw c.in_ok-refuse_label-in-Err-Label.ensures
    (name_refused c.args.self.now c.open.new.self a c.args.label.now
    (open_answer a c.args.label.now c.args.options) is c.in-Err-Label.ensures.err used)

pub returns-in-Err-Limit-clause-answers : goal.returns-in-Err-Limit-clause-answers
returns-in-Err-Limit-clause-answers c = λ a is.
    let full = rw c.in-Err-Limit.field-0-is at c.in-Err-Limit.ensures.cause in
    full_refused c.args.self.now c.open.new.self a c.args.label.now
    (open_answer a c.args.label.now c.args.options) is c.in-Err-Limit.ensures.err full.0 full.1

pub returns-in_ok-refuse_label-in-Err-Label-clause-sound : goal.returns-in_ok-refuse_label-in-Err-Label-clause-sound
returns-in_ok-refuse_label-in-Err-Label-clause-sound c =
    sound_behind c.args.self.now c.open.new.self c.requires
    (c.open.ensures.sound c.args.self.now.schema c.requires.sessions)
    (λ is. own_same c.args.self.now c.open.new.self is c.in-Err-Label.ensures.err)

pub returns-in_err-refuse_label-in-Err-Label-clause-sound : goal.returns-in_err-refuse_label-in-Err-Label-clause-sound
returns-in_err-refuse_label-in-Err-Label-clause-sound c =
    sound_behind c.args.self.now c.open.new.self c.requires
    (c.open.ensures.sound c.args.self.now.schema c.requires.sessions)
    (λ is. own_same c.args.self.now c.open.new.self is c.in-Err-Label.ensures.err)

pub returns-in-Err-Limit-clause-sound : goal.returns-in-Err-Limit-clause-sound
returns-in-Err-Limit-clause-sound c =
    sound_behind c.args.self.now c.open.new.self c.requires
    (c.open.ensures.sound c.args.self.now.schema c.requires.sessions)
    (λ is. own_same c.args.self.now c.open.new.self is c.in-Err-Limit.ensures.err)

pub returns-in-Err-Memory-clause-sound : goal.returns-in-Err-Memory-clause-sound
returns-in-Err-Memory-clause-sound c =
    sound_behind c.args.self.now c.open.new.self c.requires
    (c.open.ensures.sound c.args.self.now.schema c.requires.sessions)
    (λ is. own_same c.args.self.now c.open.new.self is c.in-Err-Memory.ensures.err)
