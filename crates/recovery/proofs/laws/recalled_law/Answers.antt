use Rattle.recovery.proofs.RecalledLaws.{shows_none, stands_recalled}
use Rattle.recovery.proofs.laws.recalled_law.Goals as goal

pub returns-clause-stands : goal.returns-clause-stands
returns-clause-stands c = stands_recalled

pub returns-clause-bare : goal.returns-clause-bare
returns-clause-bare c = shows_none
