use Rattle.std.proofs.Common.{◌∙◌}
use Rattle.backing_gate.proofs.TouchLaws.{are_touched}
use Rattle.backing_gate.proofs.touching.touched_in.Goals as goal

pub returns : goal.returns
returns c =
    are_touched c.args.tables.now c.args.tree.now c.args.log.now c.args.wants.now c.in_ok-roots.roots c.in_ok-wanted.wanted c.in_ok-roots.ensures c.in_ok-wanted.ensures
    c.from_vec.result (c.from_vec.ensures ∙ c.in_ok-touched.ensures)
