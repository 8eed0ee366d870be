use Rattle.session_state.proofs.DefinedLaws.{applied_defined}
use Rattle.session_state.proofs.laws.defined_law.Goals as goal

pub returns : goal.returns
returns c = λ ops s n sound e. applied_defined ops s n sound.back e
