-- What a query leaves of the tier that answers it.
use Rattle.std.proofs.Common.{◌≡◌, Result, Ok, Err, List, map, inl, inr, refl, sym, subst}
use Rattle.tier_base.specs.declared.number.SessionId.{SessionId}
use Rattle.row_types.specs.declared.rule.Refused.{Refused}
use Rattle.row_types.specs.declared.rule.Refused.TheVariants as refused
use Rattle.row_types.specs.declared.rule.Rule.{Rule}
use Rattle.table_state.specs.declared.footprint.RowKey.{RowKey}
use Rattle.table_state.specs.Tables.{TableState}
use Rattle.resolution.specs.declared.resolved.ResolvedQuery.{ResolvedQuery}
use Rattle.resolution.specs.Queries.{PlacedQuery, resolved_query}
use Rattle.sql_query.specs.declared.query.Query.{Query}
use Rattle.tier_base.specs.declared.code.Code.TheVariants as code
use Rattle.sql_subset.specs.declared.stmt.Stmt.TheVariants as statement
use Rattle.cache_tier.specs.declared.reply.Last.TheVariants.{No}
use Rattle.cache_tier.specs.declared.reply.Reply.{Reply}
use Rattle.cache_tier.specs.Facts.{OverIsApplied}
use Rattle.cache_tier.specs.Order.{broken_by_name, first_broken, refusal}
use Rattle.cache_tier.specs.Recency.{after_use, row_key, selected_rows, used_rows}
use Rattle.cache_tier.specs.Routes.{visible}
use Rattle.cache_tier.specs.Rules.{rule_in}
use Rattle.cache_tier.specs.SelectSteps.{Selects, SelectsPlaced, plan_of, rows_reply}
use Rattle.cache_tier.specs.Shown.{seen_by}
use Rattle.cache_tier.specs.Steps.{DoesStatement}
use Rattle.cache_tier.specs.TierStates.{Session, level_of}
use Rattle.cache_tier.specs.Worlds.{Unless, World, faulty, only}
use Rattle.cache_tier.specs.Events.{StaysShown, with_tier}
use Rattle.cache_tier.specs.StandingBetween.{Stands}
use Rattle.group_catalog.specs.Catalogs.{groups_in}
use Rattle.tier_statements.specs.Answering.{IsAnswerTo}
use Rattle.statement_uses.specs.Uses.{HaveUses, roots_of_query, roots_of_rows}
use Rattle.statement_uses.proofs.UseLaws.{rows_are}
use Rattle.session_engine.specs.Selecting.{AnswersInEach, IsSelected, SelectsOver, SelectsUnwritten}
use Rattle.session_engine.proofs.TouchedLaws.{hidden_touched, rows_touched}
use Rattle.session_engine.proofs.UsedStored.{distinct_keys, stored_touched}
use Rattle.session_engine.proofs.SeenStates.{sees}
use Rattle.stored_tier.proofs.OwnSeen.{NumberLaw}
use Rattle.stored_tier.specs.declared.tier.Tier.{Tier as Stored}
use Rattle.stored_tier.specs.Performing.{IsCalm, IsPerformed, PerformsIn, StandsFor, reply_of}
use Rattle.stored_tier.specs.Sites.{IsAt}
use Rattle.outside.specs.Sites.{SiteState}
use Rattle.stored_tier.specs.Stored.{HasSession, IsSound, IsVerified}
use Rattle.stored_tier.proofs.QuietLaws.{at_still, calm_by, calm_refused, session_over, stands_behind, stands_over}

-- its reply tells no fault

pub calm_answer : (query : ResolvedQuery) (s : TableState) (r : Result Reply Refused) → IsAnswerTo query s r → IsCalm (reply_of r)
calm_answer query s (Ok reply) answer = subst IsCalm (sym answer.is) (calm_by (rows_reply answer.rows) refl refl refl)
calm_answer query s (Err e) answer = calm_refused e

-- the names decide whether it is refused before

pub selects_unless : (s : Session) (q : Query) (w w' : World) (reply : Reply) → Selects s q w w' reply → Unless (refusal w.tier s (statement.Select q)) (DoesStatement s (statement.Select q)) w w' reply
selects_unless s q w w' reply selects = by (resolved_query (visible (level_of s) w.tier) q) refl selects
  where
    placed : Result PlacedQuery Rule
    placed = resolved_query (visible (level_of s) w.tier) q

    by : (r : Result PlacedQuery Rule) → placed ≡ r → SelectsPlaced s r w w' reply → Unless (first_broken (broken_by_name (rule_in placed))) (Selects s q) w w' reply
    by (Ok found) is does = subst (λ r. Unless (first_broken (broken_by_name (rule_in r))) (Selects s q) w w' reply) (sym is) selects
    by (Err rule) is does = subst (λ r. Unless (first_broken (broken_by_name (rule_in r))) (Selects s q) w w' reply) (sym is) does

-- the statement

abbrev pub UseLaw : Type 0
UseLaw = (w : World) (s : TableState) (rows : List RowKey) → Stands w → StaysShown w (with_tier (after_use s rows w.tier) w)

-- memory is wanting
pub wanting_still : (new : Stored) (site : SiteState) (query : ResolvedQuery) (s : Session) (w : World) → IsAt site w → StandsFor new w → IsPerformed new site (λ w'. SelectsUnwritten query s w w' (faulty code.Memory))
wanting_still new site query s w at is = record { world = w; at = at; stands = is; is = (inr (refl, refl), record { journal = refl; schema = refl }) }

pub unverified_still : (old new : Stored) (site : SiteState) (id : SessionId) (query : ResolvedQuery) → new ≡ record old { verified = new.verified } → PerformsIn old new site site id (SelectsUnwritten query) (Err refused.Memory)
unverified_still old new site id query same = λ s has w at is unshared. wanting_still new site query s w at (stands_over old new w same is)

-- what the session sees, and the keys of the rows that a query selects of it
abbrev sight : Session → World → TableState
sight s w = seen_by s w.history w.tier

abbrev keys_of : ResolvedQuery → Session → World → List RowKey
keys_of query s w = map (row_key (sight s w)) (selected_rows (plan_of query) (sight s w))

-- it is answered
answered_done : UseLaw → OverIsApplied → NumberLaw → (t new : Stored) (site : SiteState) (id : SessionId) (s : Session) (query : ResolvedQuery) (w : World) (reply : Reply) → IsSound t → IsVerified t → IsAt site w → StandsFor t w → HasSession t id s → IsSelected t new id query reply
    → IsPerformed new site (λ w'. SelectsUnwritten query s w w' reply)
answered_done law over_law number_law t new site id s query w reply sound verified at is has here =
    let seen = sees over_law number_law t id s w sound verified is.shows has in
    let uses = subst (λ z. HaveUses (groups_in t.catalog) (roots_of_query z (plan_of query)) here.uses) seen.is (here.are seen.state seen.applied) in
    let answer = here.answers w s is.shows has in
    let after = after_use (sight s w) (keys_of query s w) w.tier in
    record {
      world = with_tier after w;
      at = at_still site w after at;
      stands = stands_behind t new w after is is.waits
          (stored_touched t new w.tier here.uses (λ g. roots_of_rows (sight s w) g.def.tree (keys_of query s w)) (used_rows (sight s w) (keys_of query s w)) is.stored (distinct_keys w is.stands) here.touches uses (λ g. refl) (λ g. rows_are (sight s w) (keys_of query s w) g))
          (rows_touched t new here.uses here.touches) (hidden_touched t new here.uses here.touches) (law w (sight s w) (keys_of query s w) is.stands);
      is = (
        inl (record { resolved = query; stands_for = refl; result = Ok answer.rows; answers = answer.answers; quiet = (refl, answer.is) }),
        record { journal = refl; schema = refl },
      );
    }

-- the first rule that it breaks, where its answer is one; all stays
pub refused_over : (t : Stored) (id : SessionId) (query : ResolvedQuery) (e : Refused) → AnswersInEach t id query (Err e) → SelectsOver t t id query (Err e)
refused_over t id query (refused.Rule rule) told = (refl, told)
refused_over t id query refused.Memory told = refl

-- it is refused
refused_done : (t new : Stored) (site : SiteState) (id : SessionId) (s : Session) (query : ResolvedQuery) (w : World) (rule : Rule) → IsAt site w → StandsFor t w → HasSession t id s → SelectsOver t new id query (Err (refused.Rule rule))
    → IsPerformed new site (λ w'. SelectsUnwritten query s w w' (only (No rule)))
refused_done t new site id s query w rule at is has here = record {
  world = w;
  at = at;
  stands = subst (λ z. StandsFor z w) (sym here.0) is;
  is = (
    inl (record { resolved = query; stands_for = refl; result = Err rule; answers = here.1 w s is.shows has; quiet = (refl, refl) }),
    record { journal = refl; schema = refl },
  );
}

-- in each world in which the tier stood before its rows were looked at
pub selected_in : UseLaw → OverIsApplied → NumberLaw → (old t new : Stored) (site : SiteState) (id : SessionId) (query : ResolvedQuery) (result : Result Reply Refused) → t ≡ record old { verified = t.verified } → IsSound t → IsVerified t → SelectsOver t new id query result
    → PerformsIn old new site site id (SelectsUnwritten query) result
selected_in law over_law number_law old t new site id query (Ok reply) same sound verified here = λ s has w at stands unshared.
    answered_done law over_law number_law t new site id s query w reply sound verified at (stands_over old t w same stands)
    (session_over old t id s same has) here
selected_in law over_law number_law old t new site id query (Err (refused.Rule rule)) same sound verified here = λ s has w at stands unshared.
    refused_done t new site id s query w rule at (stands_over old t w same stands) (session_over old t id s same has) here
selected_in law over_law number_law old t new site id query (Err refused.Memory) same sound verified here = λ s has w at stands unshared.
    wanting_still new site query s w at (subst (λ z. StandsFor z w) (sym here) (stands_over old t w same stands))
