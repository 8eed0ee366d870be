use Rattle.std.proofs.Common.{subst, sym}
use Rattle.session_engine.specs.Doubting.{IsReadyCommit}
use Rattle.session_engine.proofs.at_once.finish.Goals as goal

pub end_transaction-requires-clause-ready : goal.end_transaction-requires-clause-ready
end_transaction-requires-clause-ready c =
    subst (λ roots. IsReadyCommit c.args.ready.ops roots c.args.id c.args.tier.now) (sym c.as_slice.ensures) c.requires.ready
