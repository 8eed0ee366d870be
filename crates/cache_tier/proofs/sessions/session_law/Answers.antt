use Rattle.cache_tier.proofs.SessionLaws.{session_goes, session_opens, session_rolls_back, session_sets, session_writes}
use Rattle.cache_tier.proofs.sessions.session_law.Goals as goal

pub returns : goal.returns
returns c = record { writes = session_writes; ends = session_rolls_back; sets = session_sets; closes = session_goes; opens = session_opens }
