use Rattle.changed_sets.proofs.ToldLaws.{shows_changed}
use Rattle.changed_sets.proofs.laws.changed_law.Goals as goal

pub returns : goal.returns
returns c = λ from to tree. shows_changed c.drop_instance_law.ensures from to tree
