use Rattle.reopened_laws.proofs.SlotLaws.{left_at}
use Rattle.reopened_laws.proofs.laws.slots_law.Goals as goal

pub returns : goal.returns
returns c = left_at
