-- SELECT and writes whole: their names and routes, and what they do.
use Rattle.std.proofs.Common.{◌≡◌, ℕ, Option, None, Result, Ok, Err, sym, subst}
use Rattle.tier_base.specs.declared.number.SessionId.{SessionId}
use Rattle.row_types.specs.declared.rule.Refused.{Refused}
use Rattle.outside.specs.Holding.{Held}
use Rattle.outside.specs.Sites.{SiteState}
use Rattle.propagators.specs.Certainty.{KeepsCertain}
use Rattle.resolution.specs.declared.resolved.ResolvedQuery.{ResolvedQuery}
use Rattle.resolution.specs.Writes.{change_seen}
use Rattle.sql_query.specs.declared.query.Query.{Query}
use Rattle.sql_query.specs.declared.write.Write.{Write}
use Rattle.sql_subset.specs.declared.stmt.Stmt.TheVariants as statement
use Rattle.tier_journal.specs.declared.journal.TierJournal.{TierJournal}
use Rattle.tier_journal.proofs.WayLaws.{kept_unless}
use Rattle.cache_tier.specs.declared.reply.Reply.{Reply}
use Rattle.cache_tier.specs.Routes as route
use Rattle.cache_tier.specs.TierStates.{Session, Tier}
use Rattle.cache_tier.specs.Worlds.{Tries}
use Rattle.cache_tier.specs.WriteSteps.{WritesBy}
use Rattle.tier_statements.specs.Routing.{Routes, route_seen}
use Rattle.tier_statements.specs.declared.routing.Route.TheVariants.{Cached}
use Rattle.tier_statements.specs.declared.routing.RoutedWrite.{RoutedWrite}
use Rattle.stored_tier.specs.declared.tier.Tier.{Tier as Stored}
use Rattle.stored_tier.specs.Performing.{Executes, PerformsInOver, reply_of}
use Rattle.stored_tier.specs.Stored.{HasSession, IsStoredAs}
use Rattle.stored_tier.proofs.OverLaws.{keeps_called}
use Rattle.session_engine.specs.Doubting.{EndsInOver}
use Rattle.session_engine.specs.Selecting.{IsRoutedQuery, PassesQuery, RoutesQuery}
use Rattle.session_engine.specs.declared.doubt.Doubt.{Doubt}
use Rattle.session_engine.proofs.JoinedQueries as query
use Rattle.session_engine.proofs.JoinedWrites as write
use Rattle.dynamic_loads.specs.Running.{SelectsLoaded, WritesLoaded}

module _ {D : Type 0} (state : D → SiteState) (possible : D → ℕ → Held → Type 0) (old new : Stored) (k k' : Option TierJournal) (d d' : D) (id : SessionId) where
  -- a query in the cache
  pub cached_query : (q : Query) (resolved : ResolvedQuery) (result : Result Reply Refused) → ((a : Tier) (s : Session) → IsStoredAs old a → HasSession old id s → IsRoutedQuery a s q resolved route.Cached)
      → PerformsInOver state possible old new k k' d d' id (SelectsLoaded resolved) result → PerformsInOver state possible old new k k' d d' id (Executes (statement.Select q)) result
  cached_query q resolved result routed performs s has w at stands apart keeps =
      let it = performs s has w at stands apart keeps in
      record {
        world = it.world;
        at = it.at;
        is = query.executes_routed s q w it.world resolved route.Cached (reply_of result) (routed w.tier s stands.stored has) it.is;
        stands = it.stands;
        keeps = it.keeps;
      }

  -- a write in the cache
  pub cached_write : (statement_write : Write) (routed : RoutedWrite) (doubt : Option Doubt) (result : Result Reply Refused) → doubt ≡ None → routed.route ≡ Cached → ((a : Tier) (s : Session) → IsStoredAs old a → HasSession old id s → Routes a s statement_write (Ok routed))
      → PerformsInOver state possible old new k k' d d' id (WritesLoaded routed.change) result → EndsInOver state possible old new doubt k k' d d' id (Executes (statement.Write statement_write)) result
  cached_write statement_write routed doubt result none is_cached told performs =
      subst (λ o. EndsInOver state possible old new o k k' d d' id (Executes (statement.Write statement_write)) result) (sym none)
      (λ s has w at stands apart keeps.
      let it = performs s has w at stands apart keeps in
      record {
        world = it.world;
        at = it.at;
        is = write.executes_routed s statement_write w it.world routed (reply_of result) (told w.tier s stands.stored has)
            (subst (λ r. Tries (WritesBy (Ok (route_seen r)) s (change_seen routed.change)) w it.world (reply_of result)) (sym is_cached) it.is);
        left = it.stands;
        keeps = it.keeps;
      })

module _ {D : Type 0} (state : D → SiteState) (possible : D → ℕ → Held → Type 0) (t : Stored) (k : Option TierJournal) (d d' : D) (id : SessionId) (q : Query) where
  -- a query at the backing database
  pub passed_query : (resolved : ResolvedQuery) (result : Result Reply Refused) → ((a : Tier) (s : Session) → IsStoredAs t a → HasSession t id s → IsRoutedQuery a s q resolved route.PassedOn) → KeepsCertain state possible d d'
      → PassesQuery t (state d) (state d') resolved result → PerformsInOver state possible t t k k d d' id (Executes (statement.Select q)) result
  passed_query resolved result routed certain passes s has w at stands apart keeps =
      let it = passes w at stands apart in
      record {
        world = it.world;
        at = it.at;
        is = query.executes_routed s q w it.world resolved route.PassedOn (reply_of result) (routed w.tier s stands.stored has) it.is.0;
        stands = λ whole. it.stands;
        keeps = kept_unless (keeps_called state possible k d d' w it.world keeps certain it.is.1.journal it.is.1.schema it.at);
      }

  -- a query that is refused before
  pub refused_query : (e : Refused) → ((a : Tier) (s : Session) → IsStoredAs t a → HasSession t id s → RoutesQuery a s q (Err e)) → PerformsInOver state possible t t k k d d id (Executes (statement.Select q)) (Err e)
  refused_query e told s has w at stands apart keeps = record {
    world = w;
    at = at;
    is = query.executes_unrouted s q w e (told w.tier s stands.stored has);
    stands = λ whole. stands;
    keeps = kept_unless keeps;
  }
