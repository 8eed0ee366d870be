use Rattle.open_sessions.specs.Opening.{seen_all}
use Rattle.open_sessions.proofs.LookupLaws.{change_is, number_is, others_are}
use Rattle.open_sessions.proofs.laws.label_law.Goals as goal

pub returns-clause-number : goal.returns-clause-number
returns-clause-number c = λ schema s label x sound is. number_is (seen_all s) sound.numbered sound.labelled label x is

pub returns-clause-change : goal.returns-clause-change
returns-clause-change c = λ schema s label x sound is. change_is (seen_all s) sound.numbered sound.labelled label x is

pub returns-clause-closed : goal.returns-clause-closed
returns-clause-closed c = λ schema s label x sound is. others_are (seen_all s) sound.numbered sound.labelled label x is
