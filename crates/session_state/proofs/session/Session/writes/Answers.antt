use Rattle.std.proofs.Common.{◌∙◌}
use Rattle.session_state.proofs.session.Session.writes.Goals as goal

pub returns : goal.returns
returns c = λ schema kept. c.has_key.ensures ∙ kept.written c.args.table c.args.key.now
