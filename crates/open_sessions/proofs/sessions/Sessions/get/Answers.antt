use Rattle.open_sessions.proofs.LookupLaws.{number_seen}
use Rattle.open_sessions.proofs.sessions.Sessions.get.Goals as goal

pub returns : goal.returns
returns c = number_seen c.args.id c.args.self.now.open.items _ c.first_of_number.ensures
