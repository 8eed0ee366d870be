use Rattle.open_sessions.proofs.LookupLaws.{label_found}
use Rattle.open_sessions.proofs.sessions.Sessions.find.Goals as goal

pub returns : goal.returns
returns c = label_found c.args.label.now c.args.self.now.open.items _ c.first_of_label.ensures
