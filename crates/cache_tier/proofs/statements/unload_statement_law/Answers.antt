use Rattle.cache_tier.proofs.UnloadStatements.{unload_shows}
use Rattle.cache_tier.proofs.statements.unload_statement_law.Goals as goal

pub returns : goal.returns
returns c = unload_shows
