use Rattle.std.proofs.Common.{ap}
use Rattle.session_state.specs.Sessions.{OpenSession}
use Rattle.store_bench.proofs.WriteLaws.{idle_over}
use Rattle.store_bench.proofs.writing.idle_session.Goals as goal

pub returns-in-Ok : goal.returns-in-Ok
returns-in-Ok g c =
    idle_over c.start.result (g.S.Scan.state c.args.scan.now) c.requires
    (c.start.ensures.kept (g.S.Scan.state c.args.scan.now).schema) (ap (λ (s : OpenSession). s.ops) c.start.ensures.seen)
