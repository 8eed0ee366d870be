use Rattle.session_state.proofs.MeetingLaws.{holder_is}
use Rattle.session_state.proofs.laws.meeting_law.Goals as goal

pub returns : goal.returns
returns c = holder_is
