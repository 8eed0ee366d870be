use Rattle.std.proofs.Common.{refl, sym}
use Rattle.session_state.specs.Kept.{seen_of}
use Rattle.stored_tier.proofs.SessionLaws.{session_found, session_unknown}
use Rattle.stored_tier.proofs.tier.Tier.session.Goals as goal

pub returns-in-Some : goal.returns-in-Some
returns-in-Some c =
    session_found c.args.self.now c.args.label.now (seen_of c.in-Some.session.now) (seen_of c.in-Some.session.now).id
    (sym c.in-Some.ensures) refl

pub returns-in_ok-refuse_label-in-None : goal.returns-in_ok-refuse_label-in-None
returns-in_ok-refuse_label-in-None c =
    rw c.in_ok-refuse_label-in-None.ensures
    (session_unknown c.args.self.now c.args.label.now (sym c.in-None.ensures))
