-- SELECT whole: its names and its route, and what is done by it.
use Rattle.std.proofs.Common.{Ok, Err, inl, inr, refl, sym, subst}
use Rattle.row_types.specs.declared.rule.Refused.{Refused}
use Rattle.row_types.specs.declared.rule.Refused.TheVariants as refused
use Rattle.resolution.specs.declared.resolved.ResolvedQuery.{ResolvedQuery}
use Rattle.resolution.specs.Queries.{query_seen}
use Rattle.sql_query.specs.declared.query.Query.{Query}
use Rattle.sql_subset.specs.declared.stmt.Stmt.TheVariants as statement
use Rattle.cache_tier.specs.declared.reply.Last.TheVariants.{No}
use Rattle.cache_tier.specs.declared.reply.Reply.{Reply}
use Rattle.cache_tier.specs.Routes as route
use Rattle.cache_tier.specs.SelectSteps.{Selects, SelectsBy, SelectsPlaced}
use Rattle.cache_tier.specs.TierStates.{Session}
use Rattle.cache_tier.specs.Worlds.{Tries, World, only}
use Rattle.session_engine.specs.Selecting.{IsRoutedQuery, RoutesQuery}
use Rattle.session_engine.proofs.QueryLaws.{selects_unless}
use Rattle.stored_tier.specs.Performing.{Executes, reply_of}

-- what is done by the route is the statement's
pub executes_routed : (s : Session) (q : Query) (w w' : World) (resolved : ResolvedQuery) (way : route.Route) (reply : Reply) → IsRoutedQuery w.tier s q resolved way → Tries (SelectsBy way s (query_seen resolved)) w w' reply → Executes (statement.Select q) s w w' reply
executes_routed s q w w' resolved way reply here (inr wants) = inr wants
executes_routed s q w w' resolved way reply here (inl does) = inl (selects_unless s q w w' reply selects)
  where
    placed : SelectsPlaced s (Ok (query_seen resolved)) w w' reply
    placed = subst (λ r. SelectsBy r s (query_seen resolved) w w' reply) (sym here.there) does

    selects : Selects s q w w' reply
    selects = subst (λ r. SelectsPlaced s r w w' reply) (sym here.is) placed

-- its names break a rule, or memory is wanting
pub executes_unrouted : (s : Session) (q : Query) (w : World) (e : Refused) → RoutesQuery w.tier s q (Err e) → Executes (statement.Select q) s w w (reply_of (Err e))
executes_unrouted s q w (refused.Rule rule) broken =
    inl (selects_unless s q w w (only (No rule)) (subst (λ r. SelectsPlaced s r w w (only (No rule))) (sym broken) (refl, refl)))
executes_unrouted s q w refused.Memory broken = inr (refl, refl)
