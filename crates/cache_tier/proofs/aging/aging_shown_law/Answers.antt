use Rattle.cache_tier.proofs.AgingLaws.{aging_shows, aging_stands}
use Rattle.cache_tier.proofs.aging.aging_shown_law.Goals as goal

pub returns : goal.returns
returns c = record { stands = aging_stands; shows = aging_shows }
