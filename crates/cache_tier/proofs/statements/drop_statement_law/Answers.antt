use Rattle.cache_tier.proofs.DropStatements.{drop_shows}
use Rattle.cache_tier.proofs.statements.drop_statement_law.Goals as goal

pub returns : goal.returns
returns c = drop_shows
