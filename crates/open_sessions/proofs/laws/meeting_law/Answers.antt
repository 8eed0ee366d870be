use Rattle.open_sessions.specs.Opening.{seen_all}
use Rattle.open_sessions.proofs.LookupLaws.{met_is}
use Rattle.open_sessions.proofs.laws.meeting_law.Goals as goal

pub returns : goal.returns
returns c = λ schema s label x ops sound is. met_is (seen_all s) sound.numbered sound.labelled label x is schema ops
