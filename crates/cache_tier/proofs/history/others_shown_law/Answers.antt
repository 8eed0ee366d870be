use Rattle.cache_tier.proofs.HistoryKeeps.{around_goes_on, others_go_on}
use Rattle.cache_tier.proofs.history.others_shown_law.Goals as goal

pub returns : goal.returns
returns c = record { entries = others_go_on; around = around_goes_on }
