use Rattle.resolution.specs.Writes.{change_seen}
use Rattle.cache_tier.specs.Wants.{wanted_by_write}
use Rattle.session_engine.proofs.WantedLaws.{wanted_then}
use Rattle.session_engine.proofs.wanting.wanted_by_write.Goals as goal

pub returns : goal.returns
returns c = wanted_then c.args.tier.now (λ a. wanted_by_write a (change_seen c.args.change.now)) c.wanted_by_write.result c.wanted_by_write.ensures
