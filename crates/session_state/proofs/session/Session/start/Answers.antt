-- Nothing is held.
use Rattle.session_state.proofs.KeptLaws.{kept_none}
use Rattle.session_state.proofs.session.Session.start.Goals as goal

pub returns-clause-kept : goal.returns-clause-kept
returns-clause-kept c = λ schema. kept_none schema _ c.new.ensures.items c.new-2.ensures c.new-3.ensures c.new-4.ensures
