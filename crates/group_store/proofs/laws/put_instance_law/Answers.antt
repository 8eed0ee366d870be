use Rattle.group_store.proofs.PutLaws.{keeps_one_more}
use Rattle.group_store.proofs.laws.put_instance_law.Goals as goal

pub returns : goal.returns
returns c = keeps_one_more
