use Rattle.transactions.proofs.DifferLaws.{all_differ, one_differs}
use Rattle.transactions.proofs.laws.difference_law.Goals as goal

pub returns : goal.returns
returns c = record { one = one_differs; all = all_differ }
