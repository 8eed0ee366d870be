use Rattle.session_cli.proofs.CheckLaws.{check_unstarted}
use Rattle.session_cli.proofs.checking.check.Goals as goal

pub returns-in_default-clause-checks : goal.returns-in_default-clause-checks
returns-in_default-clause-checks g c = λ input start source sink. check_unstarted input start _ _ source sink

pub returns-in_default-vec-clause-checks : goal.returns-in_default-vec-clause-checks
returns-in_default-vec-clause-checks g c = λ input start source sink. check_unstarted input start _ _ source sink
