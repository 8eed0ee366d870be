-- Where a query is answered, and over what.
use Rattle.std.proofs.Common.{◌≡◌, ◌<◌, ◌≤◌, ℕ, Bool, true, false, cond, nat_lt, ◌&&◌, Option, Some, Result, Ok, Err, unwrap_or, List, refl, sym, ap, subst, ◌∙◌}
use Rattle.std.specs.List.{list_all}
use Rattle.std.specs.Option.{option_map}
use Rattle.std.proofs.lemmas.Bool.{le-ltb, lt-ltb}
use Rattle.row_types.specs.declared.rule.Refused.{Refused}
use Rattle.row_types.specs.declared.rule.Refused.TheVariants as refused
use Rattle.tier_base.specs.declared.number.SessionId.{SessionId}
use Rattle.tier_base.specs.declared.number.TableId.{TableId}
use Rattle.table_defs.specs.declared.definition.TableDef.{TableDef}
use Rattle.table_state.specs.Operations.{applied_all}
use Rattle.table_state.specs.Tables.{TableState}
use Rattle.session_state.specs.Sessions.{level_of as stored_level}
use Rattle.open_sessions.specs.Lookups.{of_number, open_ops}
use Rattle.open_sessions.specs.Opening.{seen_all}
use Rattle.resolution.specs.declared.resolved.ResolvedQuery.{ResolvedQuery}
use Rattle.resolution.specs.Queries.{PlacedQuery, query_seen, resolved_query}
use Rattle.resolution.specs.Results.{Gives}
use Rattle.sql_query.specs.declared.query.Query.{Query}
use Rattle.cache_tier.specs.declared.reply.Reply.{Reply}
use Rattle.cache_tier.specs.Facts.{OverIsApplied}
use Rattle.cache_tier.specs.Routes as route
use Rattle.cache_tier.specs.Routes.{is_cached, query_route, visible}
use Rattle.cache_tier.specs.Shown.{seen_by}
use Rattle.cache_tier.specs.TierStates.{Session, Tier, level_of}
use Rattle.cache_tier.specs.Worlds.{World}
use Rattle.tier_statements.specs.Answering.{IsAnswerTo}
use Rattle.session_engine.specs.Selecting.{IsRoutedQuery, RoutesQuery}
use Rattle.stored_tier.proofs.OwnSeen.{NumberLaw, number_found, seen_is}
use Rattle.stored_tier.specs.declared.tier.Tier.{Tier as Stored}
use Rattle.stored_tier.specs.Stored.{HasSession, IsSound, ShowsRows, rows_of}

-- where a query is answered

pub cached_way : (level : ℕ) (a : Tier) (tables : List TableId) → level < 3 → list_all (is_cached a) tables ≡ true → query_route level a tables ≡ route.Cached
cached_way level a tables low all =
    ap (λ b. cond (b && list_all (is_cached a) tables) route.Cached route.PassedOn) (lt-ltb level 3 low)
    ∙ ap (λ b. cond b route.Cached route.PassedOn) all

pub passed_above : (level : ℕ) (a : Tier) (tables : List TableId) → 3 ≤ level → query_route level a tables ≡ route.PassedOn
passed_above level a tables high =
    ap (λ b. cond (b && list_all (is_cached a) tables) route.Cached route.PassedOn) (le-ltb level 3 high)

pub passed_by_table : (level : ℕ) (a : Tier) (tables : List TableId) → list_all (is_cached a) tables ≡ false → query_route level a tables ≡ route.PassedOn
passed_by_table level a tables some =
    ap (λ b. cond (nat_lt level 3 && b) route.Cached route.PassedOn) some ∙ by (nat_lt level 3)
  where
    by : (b : Bool) → cond (b && false) route.Cached route.PassedOn ≡ route.PassedOn
    by true = refl
    by false = refl

-- over parts of the code

pub level_found : NumberLaw → (t : Stored) (id : SessionId) (s : Session) (o : Option ℕ) → IsSound t → HasSession t id s → o ≡ option_map stored_level (of_number id (seen_all t.sessions)) → unwrap_or o 0 ≡ level_of s
level_found law t id s o sound has is =
    ap (λ o. unwrap_or o 0) (is ∙ ap (option_map stored_level) (number_found law t id s sound has)) ∙ ap level_of has.is

pub answered_over : OverIsApplied → NumberLaw → (t : Stored) (id : SessionId) (query : ResolvedQuery) (r : Result Reply Refused) (rows state : TableState) → IsSound t → rows ≡ rows_of t → applied_all (open_ops id (seen_all t.sessions)) rows ≡ Some state → IsAnswerTo query state r → (w : World) (s : Session) → ShowsRows t w → HasSession t id s → IsAnswerTo query (seen_by s w.history w.tier) r
answered_over over law t id query r rows state sound same applied answer w s shows has =
    subst (λ st. IsAnswerTo query st r)
    (seen_is over law t id s w state sound shows has (ap (applied_all (open_ops id (seen_all t.sessions))) (sym same) ∙ applied)) answer

pub named_by : (s : Session) (q : Query) (a : Tier) (level : ℕ) (schema : List TableDef) (placed : PlacedQuery) → level ≡ level_of s → schema ≡ visible level a → resolved_query schema q ≡ Ok placed → resolved_query (visible (level_of s) a) q ≡ Ok placed
named_by s q a level schema placed same seen is =
    ap (λ defs. resolved_query defs q) (sym (seen ∙ ap (λ l. visible l a) same)) ∙ is

-- a query and its way
pub routed : (s : Session) (q : Query) (a : Tier) (resolved : ResolvedQuery) (way : route.Route) (level : ℕ) (schema : List TableDef) (tables : List TableId) → level ≡ level_of s → schema ≡ visible level a → resolved_query schema q ≡ Ok (query_seen resolved)
    → tables ≡ (query_seen resolved).tables → query_route level a tables ≡ way → IsRoutedQuery a s q resolved way
routed s q a resolved way level schema tables low seen is there leads = record {
  is = named_by s q a level schema (query_seen resolved) low seen is;
  there = subst (λ l. query_route l a (query_seen resolved).tables ≡ way) low (subst (λ ts. query_route level a ts ≡ way) there leads);
}

pub told_all : (a : Tier) (tables : List TableId) (all told : Bool) → all ≡ told → all ≡ list_all (is_cached a) tables → list_all (is_cached a) tables ≡ told
told_all a tables all told off is = sym is ∙ off

-- a broken rule of the names
pub unrouted : (s : Session) (q : Query) (a : Tier) (e : Refused) (level : ℕ) (schema : List TableDef) → level ≡ level_of s → schema ≡ visible level a → Gives query_seen (resolved_query schema q) (Err e) → RoutesQuery a s q (Err e)
unrouted s q a (refused.Rule rule) level schema low seen broken = ap (λ defs. resolved_query defs q) (sym (seen ∙ ap (λ l. visible l a) low)) ∙ broken
unrouted s q a refused.Memory level schema low seen broken = tt
