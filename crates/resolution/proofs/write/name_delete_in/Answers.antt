-- The parts that were placed make up the write.
use Rattle.resolution.specs.Results.{then_make}
use Rattle.resolution.specs.Scopes.{shown}
use Rattle.resolution.specs.Writes.{action_seen}
use Rattle.resolution.proofs.WriteLaws.{deleted_as}
use Rattle.resolution.proofs.write.name_delete_in.Goals as goal

pub returns : goal.returns
returns c =
    deleted_as (shown c.args.scope.now) c.args.delete.now c.in_ok-filter.filter c.place_filter.new.unheld (then_make action_seen c.in_ok-action.action)
    c.in_ok-filter.ensures.placed c.in_ok-filter.ensures.typed c.in_ok-filter.ensures.held c.in_ok-action.ensures
