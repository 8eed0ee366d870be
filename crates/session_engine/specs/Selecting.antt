-- SELECT over the stored tier. (TimesTen SQL Reference, "SELECT"; TimesTen Cache User's Guide, "Setting a passthrough
-- level".)

use Rattle.std.specs.Prelude.{◌≡◌, Result, Ok, Err}
use Rattle.row_types.specs.declared.rule.Refused.{Refused}
use Rattle.row_types.specs.declared.rule.Refused.TheVariants as refused
use Rattle.tier_base.specs.declared.number.SessionId.{SessionId}
use Rattle.resolution.specs.declared.resolved.ResolvedQuery.{ResolvedQuery}
use Rattle.resolution.specs.Queries.{query_seen, resolved_query}
use Rattle.sql_query.specs.declared.query.Query.{Query}
use Rattle.cache_tier.specs.declared.reply.Reply.{Reply}
use Rattle.cache_tier.specs.Routes as route
use Rattle.cache_tier.specs.Routes.{query_route, visible}
use Rattle.cache_tier.specs.SelectSteps.{SelectsPassed, SelectsShown, plan_of}
use Rattle.cache_tier.specs.Shown.{seen_by}
use Rattle.cache_tier.specs.TierStates.{Session, Tier, level_of}
use Rattle.cache_tier.specs.Worlds.{Part, Tries, World}
use Rattle.outside.specs.Sites.{SiteState}
use Rattle.tier_statements.specs.Answering.{IsAnswerTo}
use Rattle.session_engine.specs.declared.query.Routed.{Routed}
use Rattle.session_engine.specs.declared.query.Routed.TheVariants.{Cached, PassedOn}
use Rattle.session_engine.specs.Using.{AreQueryUses, Touches, Uses}
use Rattle.stored_tier.specs.declared.tier.Tier.{Tier as Stored}
use Rattle.stored_tier.specs.Performing.{Performs, StaysWritten, reply_of}
use Rattle.stored_tier.specs.Stored.{HasSession, ShowsRows}

-- the query's names are found, and it is answered there
pub record IsRoutedQuery (a : Tier) (s : Session) (q : Query) (resolved : ResolvedQuery) (way : route.Route)
    : Type 0 where
  pub is : resolved_query (visible (level_of s) a) q ≡ Ok (query_seen resolved)
  pub there : query_route (level_of s) a (query_seen resolved).tables ≡ way

-- where a query is answered, or the first rule that its names break; memory may be wanting at any time
abbrev pub RoutesQuery : Tier → Session → Query → Result Routed Refused → Type 0
RoutesQuery a s q (Ok (Cached resolved)) = IsRoutedQuery a s q resolved route.Cached
RoutesQuery a s q (Ok (PassedOn resolved)) = IsRoutedQuery a s q resolved route.PassedOn
RoutesQuery a s q (Err (refused.Rule rule)) = resolved_query (visible (level_of s) a) q ≡ Err rule
RoutesQuery a s q (Err refused.Memory) = Unit {0}

-- the query is answered in the cache, and the instances that it selects are used; the journal isn't written to
abbrev pub SelectsUnwritten : ResolvedQuery → Session → Part
SelectsUnwritten query s w w' reply = Tries (SelectsShown s (query_seen query)) w w' reply × StaysWritten w w'

-- so a query is answered in each world
abbrev pub AnswersInEach : Stored → SessionId → ResolvedQuery → Result Reply Refused → Type 0
AnswersInEach t id query result =
    (w : World) (s : Session) → ShowsRows t w → HasSession t id s
    → IsAnswerTo query (seen_by s w.history w.tier) result

-- the reply is the query's, and the instances that it selects were used
pub record IsSelected (old new : Stored) (id : SessionId) (query : ResolvedQuery) (reply : Reply) : Type 0 where
  pub uses : Uses
  pub are : AreQueryUses old id (plan_of query) uses
  pub touches : Touches old new uses
  pub answers : AnswersInEach old id query (Ok reply)

-- or the first rule that it breaks; memory may be wanting at any time
abbrev pub SelectsOver : Stored → Stored → SessionId → ResolvedQuery → Result Reply Refused → Type 0
SelectsOver old new id query (Ok reply) = IsSelected old new id query reply
SelectsOver old new id query (Err (refused.Rule rule)) =
    (new ≡ old) × AnswersInEach old id query (Err (refused.Rule rule))
SelectsOver old new id query (Err refused.Memory) = new ≡ old

-- The query is answered at the backing database, over one state of it: the tier stays as it is, and the journal isn't
-- written to.
abbrev pub PassesQuery : Stored → SiteState → SiteState → ResolvedQuery → Result Reply Refused → Type 0
PassesQuery t before behind query result =
    Performs t t before behind
    (λ w w'. Tries (SelectsPassed (query_seen query)) w w' (reply_of result) × StaysWritten w w')
