use Rattle.std.proofs.Common.{arith}
use Rattle.session_state.specs.declared.session.Session.{Session}
use Rattle.session_state.proofs.ListLaws.{as_many_as}
use Rattle.open_sessions.proofs.sessions.Sessions.free_number.Goals as goal

pub returns : goal.returns
returns c = as_many_as (λ (s : Session). s.id.0) 64 c.args.self.now.open.items (λ k lt. c.loop-number.invariant k (omega (arith, lt, c.loop-number-test.false)))
