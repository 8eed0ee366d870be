-- What was kept is kept over wider places.
use Rattle.std.proofs.Common.{refl}
use Rattle.session_state.proofs.KeptLaws.{kept_wider}
use Rattle.std.proofs.Common.{arith}
use Rattle.session_state.proofs.session.Session.widen_written.Goals as goal

pub returns-clause-kept : goal.returns-clause-kept
returns-clause-kept c = kept_wider c.args.schema.now c.args.self.now _ c.requires refl c.requires.rows (c.widen.ensures.keys _ c.requires.written) c.requires.referred c.requires.own_within (omega arith) c.requires.referred_within (λ n few room. room) c.widen.ensures.room (λ n few room. room)
