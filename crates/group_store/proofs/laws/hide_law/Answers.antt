use Rattle.group_store.proofs.HidingLaws.{hides_one}
use Rattle.group_store.proofs.laws.hide_law.Goals as goal

pub returns : goal.returns
returns c = hides_one
