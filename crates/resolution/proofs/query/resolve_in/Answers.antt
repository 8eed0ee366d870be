-- The parts that were placed make up the query.
use Rattle.std.proofs.Common.{◌||◌, ap, ◌∙◌, subst, sym}
use Rattle.resolution.specs.Literals.{unheld_in_filter}
use Rattle.resolution.specs.Placing.{expressions_seen, filter_seen}
use Rattle.resolution.specs.Queries.{query_seen}
use Rattle.resolution.specs.Results.{Gives}
use Rattle.resolution.specs.Scopes.{shown}
use Rattle.resolution.proofs.QueryLaws.{resolved_as, sound_as}
use Rattle.resolution.proofs.query.resolve_in.Goals as goal

pub returns : goal.returns
returns c =
    let q = c.args.query.now in
    let scope = shown c.args.scope.now in
    subst (λ r. Gives query_seen r c.planned.result)
    (sym (resolved_as c.args.tables scope q (expressions_seen c.in_ok-listed.listed.items) (filter_seen c.in_ok-filter.filter) c.as_slice.result.now c.in_ok-order.order.items c.in_ok-sound.sound c.place_filter.new.unheld c.in_ok-listed.ensures.placed c.in_ok-filter.ensures.placed c.as_slice.ensures c.in_ok-order.ensures
    (sound_as scope q c.as_slice-2.result.now c.in_ok-listed.listed.items c.in_ok-filter.filter c.in_ok-sound.sound c.as_slice-2.ensures.value c.in_ok-filter.ensures.typed c.in_ok-listed.ensures.typed c.in_ok-sound.ensures)
    (c.in_ok-filter.ensures.held ∙ ap (λ b. b || unheld_in_filter q.filter) c.in_ok-listed.ensures.held)))
    c.planned.ensures
