-- SELECT: in the cache, over what the session sees; or passed on, over one state of the backing database. (TimesTen SQL
-- Reference, "SELECT"; TimesTen Cache User's Guide, "Setting a passthrough level".)

use Rattle.std.specs.Prelude.{◌≡◌, List, [], ◌∷◌, length, Result, Ok, Err}
use Rattle.row_types.specs.declared.rule.Refused.TheVariants as refused
use Rattle.row_types.specs.declared.rule.Rule.{Rule}
use Rattle.row_types.specs.declared.value.Value.{Value}
use Rattle.table_state.specs.Tables.{TableState}
use Rattle.evaluator.specs.declared.plan.Plan.{Plan}
use Rattle.evaluator.specs.Queries as query
use Rattle.evaluator.specs.Summaries.{summary}
use Rattle.resolution.specs.declared.resolved.ResolvedQuery.{ResolvedQuery}
use Rattle.resolution.specs.declared.resolved.ResolvedQuery.TheVariants.{Rows, Totals}
use Rattle.resolution.specs.Queries.{PlacedQuery, query_seen, resolved_query}
use Rattle.sql_query.specs.declared.query.Query.{Query}
use Rattle.cache_tier.specs.declared.reply.Reply.{Reply}
use Rattle.cache_tier.specs.declared.reply.Last.TheVariants.{Done}
use Rattle.cache_tier.specs.Printing.{rows_bytes}
use Rattle.cache_tier.specs.Reading.{Reads, as_it_was, backing_at}
use Rattle.cache_tier.specs.Recency.{after_query}
use Rattle.cache_tier.specs.Routes.{Route, Cached, PassedOn, query_route, visible}
use Rattle.cache_tier.specs.Shown.{seen_by}
use Rattle.cache_tier.specs.TierStates.{Session, Tier, level_of}
use Rattle.cache_tier.specs.Wants.{wanted_by_query}
use Rattle.cache_tier.specs.DynamicLoads.{LoadsWanted}
use Rattle.cache_tier.specs.Worlds.{Answer, Part, Quiet, Refuses, Then, Tries, World, refuses}

-- the rows that a query answers on a state, or the first rule that it breaks there
abbrev pub AnswersQuery : ResolvedQuery → TableState → Result (List (List Value)) Rule → Type 0
AnswersQuery (Rows plan) s (Ok rows) = query.Answers plan s (Ok rows)
AnswersQuery (Rows plan) s (Err rule) = query.Answers plan s (Err (refused.Rule rule))
AnswersQuery (Totals totals plan) s (Ok rows) = (row : List Value) × (summary totals plan s ≡ Ok row)
    × (rows ≡ row ∷ [])
AnswersQuery (Totals totals plan) s (Err rule) = summary totals plan s ≡ Err rule

abbrev pub plan_of : ResolvedQuery → Plan
plan_of (Rows plan) = plan
plan_of (Totals totals plan) = plan

-- the rows of an answer, and their number
abbrev pub rows_reply : List (List Value) → Reply
rows_reply rows = record { notes = []; rows = rows_bytes rows; last = Done (length rows) }

-- what a query is answered on a state; the tier behind it
abbrev pub query_answer : Tier → Tier → Result (List (List Value)) Rule → Answer
query_answer t after (Ok rows) = (after, rows_reply rows)
query_answer t after (Err rule) = refuses t rule

-- a query with places in place of names is answered on a state; the instances that it selects are used
pub record SelectsOn (placed : PlacedQuery) (state : World → TableState) (after : Plan → World → Tier) (w w' : World)
    (reply : Reply) : Type 0 where
  pub resolved : ResolvedQuery
  pub stands_for : query_seen resolved ≡ placed
  pub result : Result (List (List Value)) Rule
  pub answers : AnswersQuery resolved (state w) result
  pub quiet : Quiet (query_answer w.tier (after (plan_of resolved) w) result) w w' reply

-- in the cache
abbrev pub SelectsShown : Session → PlacedQuery → Part
SelectsShown s placed =
    SelectsOn placed (λ w. seen_by s w.history w.tier)
    (λ plan w. after_query plan (seen_by s w.history w.tier) w.tier)

-- at the backing database
abbrev pub SelectsPassed : PlacedQuery → Part
SelectsPassed placed = Reads as_it_was (λ n. SelectsOn placed (λ w. backing_at w n) (λ plan w. w.tier))

abbrev pub SelectsBy : Route → Session → PlacedQuery → Part
SelectsBy Cached s placed w w' reply =
    Then (LoadsWanted (wanted_by_query w.tier placed)) (Tries (SelectsShown s placed)) w w' reply
SelectsBy PassedOn s placed w w' reply = SelectsPassed placed w w' reply

abbrev pub SelectsPlaced : Session → Result PlacedQuery Rule → Part
SelectsPlaced s (Err rule) w w' reply = Refuses rule w w' reply
SelectsPlaced s (Ok placed) w w' reply = SelectsBy (query_route (level_of s) w.tier placed.tables) s placed w w' reply

-- SELECT
abbrev pub Selects : Session → Query → Part
Selects s q w w' reply = SelectsPlaced s (resolved_query (visible (level_of s) w.tier) q) w w' reply
