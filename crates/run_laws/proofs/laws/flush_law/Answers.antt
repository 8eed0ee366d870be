use Rattle.run_laws.proofs.RunKeeps.{ended_broken, ended_kept, flushed_kept}
use Rattle.run_laws.proofs.laws.flush_law.Goals as goal

pub returns-clause-flushed : goal.returns-clause-flushed
returns-clause-flushed c = flushed_kept

pub returns-clause-ended : goal.returns-clause-ended
returns-clause-ended c = ended_kept

pub returns-clause-ended_broken : goal.returns-clause-ended_broken
returns-clause-ended_broken c = ended_broken
