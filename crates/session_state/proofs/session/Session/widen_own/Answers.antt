-- What was kept is kept over wider places.
use Rattle.std.proofs.Common.{refl}
use Rattle.session_state.proofs.KeptLaws.{kept_wider}
use Rattle.session_state.proofs.session.Session.widen_own.Goals as goal

pub returns-clause-kept : goal.returns-clause-kept
returns-clause-kept c = kept_wider c.args.schema.now c.args.self.now _ c.requires refl (c.widen.ensures.rows _ _ c.requires.rows) c.requires.written c.requires.referred c.widen.ensures.within c.requires.written_within c.requires.referred_within c.widen.ensures.room (λ n few room. room) (λ n few room. room)
