use Rattle.std.proofs.Common.{ap, subst, sym, ◌≡◌, ◌∙◌, false, nat_eq}
use Rattle.std.specs.List.{list_any}
use Rattle.session_state.specs.Kept.{seen_of}
use Rattle.session_state.specs.Sessions.{begun}
use Rattle.open_sessions.specs.Lookups.{has_label}
use Rattle.open_sessions.proofs.SessionLaws.{label_seen, limit_seen, opened, sound_push}
use Rattle.open_sessions.proofs.sessions.Sessions.open.Goals as goal

pub returns-then-has_label-clause-cause : goal.returns-then-has_label-clause-cause
returns-then-has_label-clause-cause c = sym (label_seen c.args.label.now c.args.self.now.open.items) ∙ sym c.has_label.ensures ∙ c.if-has_label.true

pub returns-in-None-clause-cause : goal.returns-in-None-clause-cause
returns-in-None-clause-cause c = limit_seen c.args.label.now c.args.self.now.open.items c.in-None.ensures (sym c.has_label.ensures ∙ c.if-has_label.false)

pub returns-in_ok-push-in-Some-clause-ok : goal.returns-in_ok-push-in-Some-clause-ok
returns-in_ok-push-in-Some-clause-ok c =
    opened c.args.self.now c.push.new.self c.start-session.result c.in-Some.id c.args.label.now c.args.level c.args.durable c.in_ok-push-in-Some.ensures.ok
    (c.start-session.ensures.seen ∙ ap (λ l. begun c.in-Some.id l c.args.level c.args.durable) c.in_ok-copied-in-Some.ensures)
    c.in-Some.ensures.0 (sym c.has_label.ensures ∙ c.if-has_label.false) c.in-Some.ensures.1

pub returns-in_ok-push-in-Some-clause-sound : goal.returns-in_ok-push-in-Some-clause-sound
returns-in_ok-push-in-Some-clause-sound c = λ schema sound.
    let s = c.start-session.result in
    let seen = c.start-session.ensures.seen in
    let xs = c.args.self.now.open.items in
    sound_push schema c.args.self.now c.push.new.self s c.in_ok-push-in-Some.ensures.ok (c.start-session.ensures.kept schema) (ap (λ x. x.ops) seen)
    (subst (λ n. list_any (λ x. nat_eq x.id.0 n) xs ≡ false) (sym (ap (λ x. x.id.0) seen)) c.in-Some.ensures.0)
    (subst (λ l. list_any (λ x. has_label l (seen_of x)) xs ≡ false) (sym (ap (λ x. x.label) seen ∙ c.in_ok-copied-in-Some.ensures)) (sym c.has_label.ensures ∙ c.if-has_label.false)) sound
