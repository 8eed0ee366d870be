use Rattle.cache_tier.proofs.HistoryKeeps.{round_goes_on}
use Rattle.cache_tier.proofs.history.round_shown_law.Goals as goal

pub returns : goal.returns
returns c = round_goes_on
