use Rattle.group_store.proofs.KeepingLaws.{keeps_others}
use Rattle.group_store.proofs.laws.drop_instance_law.Goals as goal

pub returns : goal.returns
returns c = keeps_others
