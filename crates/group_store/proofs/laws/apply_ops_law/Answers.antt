use Rattle.group_store.proofs.RunLaws.{keeps_pace}
use Rattle.group_store.proofs.laws.apply_ops_law.Goals as goal

pub returns : goal.returns
returns c = keeps_pace
