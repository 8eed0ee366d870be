-- Nothing is held.
use Rattle.session_state.proofs.KeptLaws.{kept_none}
use Rattle.session_state.proofs.session.Session.rest.Goals as goal

pub returns-clause-kept : goal.returns-clause-kept
returns-clause-kept c = λ schema. kept_none schema _ c.clear.ensures.items c.clear-2.ensures c.clear-3.ensures c.clear-4.ensures
