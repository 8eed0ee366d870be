use Rattle.recovery.proofs.LeftLaws.{crash_leaves}
use Rattle.recovery.proofs.laws.crash_leaves_law.Goals as goal

pub returns : goal.returns
returns c = crash_leaves
