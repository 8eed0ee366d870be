use Rattle.reopened_laws.proofs.RunEnds.{run_leaves}
use Rattle.reopened_laws.proofs.laws.run_leaves_law.Goals as goal

pub returns : goal.returns
returns c = λ settings moment there o w ran last lines replies x may goes_on run goes. run_leaves settings moment there o w ran lines replies x may goes_on run goes last
