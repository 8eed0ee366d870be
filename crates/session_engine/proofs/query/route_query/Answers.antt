use Rattle.std.proofs.Common.{◌≡◌, Err, ap, false, refl, rules, subst, sym, true, ◌∙◌}
use Rattle.std.specs.List.{list_all}
use Rattle.resolution.specs.Queries.{query_seen}
use Rattle.session_engine.specs.Selecting.{RoutesQuery}
use Rattle.cache_tier.specs.Routes as route
use Rattle.cache_tier.specs.Routes.{is_cached}
use Rattle.session_engine.proofs.SelectLaws.{cached_way, passed_above, passed_by_table, routed, told_all, unrouted}
use Rattle.session_engine.proofs.query.route_query.Goals as goal
use Rattle.session_engine.proofs.query.route_query.Goals.{else-level-lt3-via-then-level-lt3+else-has_all, else-level-lt3-via-else-level-lt3}

pub returns-in_err-resolved : goal.returns-in_err-resolved
returns-in_err-resolved c = λ a s is has.
    let told : Err c.in_err-resolved.field-0.0 ≡ c.from_residual.result = Prim.search rules in
    subst (RoutesQuery a s c.args.query.now) told
    (unrouted s c.args.query.now a c.in_err-resolved.field-0.0 c.level-level.result c.names.result.now (c.level-level.ensures s has)
    (c.names.ensures a is) c.in_err-resolved.ensures)

pub returns-then-has_all : goal.returns-then-has_all
returns-then-has_all c = λ a s is has.
    routed s c.args.query.now a c.in_ok-resolved.resolved route.Cached c.level-level.result c.names.result.now c.tables_of.result.now
    (c.level-level.ensures s has) (c.names.ensures a is) c.in_ok-resolved.ensures c.tables_of.ensures
    (cached_way c.level-level.result a c.tables_of.result.now c.if-level-lt3.true (told_all a c.tables_of.result.now c.has_all.result true c.if-has_all.true (c.has_all.ensures a is)))

pub returns-else-level-lt3 : goal.returns-else-level-lt3
returns-else-level-lt3 c = λ a s is has.
    let tables = (query_seen c.in_ok-resolved.resolved).tables in
    let low = c.level-level.ensures s has in
    routed s c.args.query.now a c.in_ok-resolved.resolved route.PassedOn c.level-level.result c.names.result.now tables
    low (c.names.ensures a is) c.in_ok-resolved.ensures refl
    (elim c.else-level-lt3.branch [
      | else-level-lt3-via-then-level-lt3+else-has_all w ↦ passed_by_table c.level-level.result a tables
          (ap (list_all (is_cached a)) (sym w.tables_of.ensures) ∙ told_all a w.tables_of.result.now w.has_all.result false w.if-has_all.false (w.has_all.ensures a is))
      | else-level-lt3-via-else-level-lt3 w ↦ passed_above c.level-level.result a tables w.if-level-lt3.false
    ])
