-- The place is a rank.
use Rattle.own_rows.proofs.ChildSteps.{split_rank}
use Rattle.own_rows.proofs.search.rank_of_key.Goals as goal

pub returns-clause-rank : goal.returns-clause-rank
returns-clause-rank c = split_rank _ _ _ c.first_at_least.ensures.bound c.first_at_least.ensures.below c.first_at_least.ensures.at_least
