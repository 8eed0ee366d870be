use Rattle.open_sessions.proofs.GrownLaws.{sessions_grown}
use Rattle.open_sessions.proofs.laws.grown_law.Goals as goal

pub returns : goal.returns
returns c = sessions_grown
