-- The parts that were placed make up the write.
use Rattle.resolution.specs.Results.{then_make}
use Rattle.resolution.specs.Writes.{action_seen}
use Rattle.resolution.proofs.WriteLaws.{inserted_as}
use Rattle.resolution.proofs.write.name_insert.Goals as goal

pub returns : goal.returns
returns c =
    inserted_as c.args.columns.now c.args.insert.now c.as_slice.result.now c.in_ok-targets.targets.items c.in_ok-values.values.items c.place_list.new.unheld (then_make action_seen c.in_ok-action.action)
    c.as_slice.ensures c.in_ok-targets.ensures c.in_ok-values.ensures.placed c.in_ok-values.ensures.typed c.in_ok-values.ensures.held c.in_ok-action.ensures
