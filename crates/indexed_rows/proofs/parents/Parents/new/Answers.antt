use Rattle.indexed_rows.proofs.IndexLaws.{none_indexed}
use Rattle.indexed_rows.proofs.parents.Parents.new.Goals as goal

pub returns : goal.returns
returns c = none_indexed _ c.new.ensures
