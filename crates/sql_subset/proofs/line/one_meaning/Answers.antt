use Rattle.sql_subset.proofs.Meaning.{same_meaning}
use Rattle.sql_subset.proofs.line.one_meaning.Goals as goal

pub returns : goal.returns
returns c = same_meaning c.one_verdict.ensures
