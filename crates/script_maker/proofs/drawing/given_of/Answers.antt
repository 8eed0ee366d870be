use Rattle.std.proofs.Common.{refl}
use Rattle.script_maker.specs.Script.{given_of}
use Rattle.script_maker.proofs.drawing.given_of.Goals as goal

pub returns : goal.returns
unfolding given_of
returns c = refl
