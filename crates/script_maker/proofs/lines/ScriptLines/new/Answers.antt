use Rattle.std.proofs.Common.{refl, arith}
use Rattle.script_maker.specs.Giving.{lines_left}
use Rattle.script_maker.specs.Script.{script_lines}
use Rattle.script_maker.proofs.CountLaws.{length_script}
use Rattle.script_maker.proofs.lines.ScriptLines.new.Goals as goal

pub returns-clause-all : goal.returns-clause-all
unfolding lines_left script_lines
returns-clause-all c = rw c.from-count.ensures refl

pub returns-clause-few : goal.returns-clause-few
unfolding lines_left script_lines
returns-clause-few c = rw c.from-count.ensures (length_script c.args.number (omega arith))
