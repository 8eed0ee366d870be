use Rattle.open_sessions.proofs.LookupLaws.{tested}
use Rattle.open_sessions.proofs.sessions.has_label.Goals as goal

pub returns : goal.returns
returns c = tested c.args.session.now.label c.args.label.now c.same.result c.same.ensures
