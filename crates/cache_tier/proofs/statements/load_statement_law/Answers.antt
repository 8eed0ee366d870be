use Rattle.cache_tier.proofs.LoadStatements.{load_shows, refresh_shows}
use Rattle.cache_tier.proofs.statements.load_statement_law.Goals as goal

pub returns-clause-loaded : goal.returns-clause-loaded
returns-clause-loaded c = load_shows

pub returns-clause-refreshed : goal.returns-clause-refreshed
returns-clause-refreshed c = refresh_shows
