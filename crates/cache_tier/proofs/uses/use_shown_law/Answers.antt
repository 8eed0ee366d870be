use Rattle.cache_tier.proofs.Regrouping.{rows_used, write_stays, writes_used}
use Rattle.cache_tier.proofs.uses.use_shown_law.Goals as goal

pub returns : goal.returns
returns c = record { rows = rows_used; writes = writes_used; written = write_stays }
