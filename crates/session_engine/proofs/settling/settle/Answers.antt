use Rattle.std.proofs.Common.{subst, sym}
use Rattle.session_engine.specs.Doubting.{IsReadyCommit}
use Rattle.session_engine.proofs.SettledLaws.{ready_commit}
use Rattle.session_engine.proofs.settling.settle.Goals as goal

pub settle_commit-requires-clause-ready : goal.settle_commit-requires-clause-ready
settle_commit-requires-clause-ready c =
    subst (λ roots. IsReadyCommit c.in-Commit.ops roots c.args.asked.session c.args.tier.now) (sym c.as_slice.ensures)
    (ready_commit c.args.tier.now c.args.asked c.in-Commit.ops c.in-Commit.is c.requires.ready)
