-- The parts that were placed make up the write.
use Rattle.resolution.specs.Results.{then_make}
use Rattle.resolution.specs.Scopes.{shown}
use Rattle.resolution.specs.Writes.{action_seen}
use Rattle.resolution.proofs.WriteLaws.{updated_as}
use Rattle.resolution.proofs.write.name_update_in.Goals as goal

pub returns : goal.returns
returns c =
    updated_as c.args.def.now (shown c.args.scope.now) c.args.update.now c.as_slice-columns.result.now c.as_slice-list.result.now c.in_ok-set.set.targets.items c.in_ok-set.set.values.items c.in_ok-filter.filter c.place_assignments.new.unheld c.place_filter.new.unheld (then_make action_seen c.in_ok-action.action)
    c.as_slice-columns.ensures c.as_slice-list.ensures c.in_ok-set.ensures.placed c.in_ok-set.ensures.typed c.in_ok-set.ensures.held
    c.in_ok-filter.ensures.placed c.in_ok-filter.ensures.typed c.in_ok-filter.ensures.held c.in_ok-action.ensures
