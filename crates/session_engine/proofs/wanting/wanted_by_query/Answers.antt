use Rattle.resolution.specs.Queries.{query_seen}
use Rattle.cache_tier.specs.Wants.{wanted_by_query}
use Rattle.session_engine.proofs.WantedLaws.{wanted_then}
use Rattle.session_engine.proofs.wanting.wanted_by_query.Goals as goal

pub returns : goal.returns
returns c = wanted_then c.args.tier.now (λ a. wanted_by_query a (query_seen c.args.query.now)) c.wanted_by_query.result c.wanted_by_query.ensures
