-- What a CALL does, over what is stored.
use Rattle.std.proofs.Common.{◌≡◌, ℕ, cond, ◌+◌, Option, Some, None, Ok, Err, List, [], ◌∷◌, codes, count_by, map, refl, sym, ap, subst, ◌∙◌, inl, inr}
use Rattle.std.specs.List.{fold}
use Rattle.std.specs.Option.{option_map}
use Rattle.tier_base.specs.Names.{folded, is_name}
use Rattle.tier_base.specs.declared.code.Code.TheVariants as code
use Rattle.tier_base.specs.declared.number.SessionId.{SessionId}
use Rattle.row_types.specs.declared.rule.Detail.TheVariants as detail
use Rattle.row_types.specs.declared.rule.Refused.{Refused}
use Rattle.row_types.specs.declared.rule.Refused.TheVariants as refused
use Rattle.row_types.specs.declared.rule.Rule.{Rule}
use Rattle.table_defs.specs.Names.{same_name}
use Rattle.sql_query.specs.declared.literal.Literal.{Literal}
use Rattle.sql_subset.specs.declared.stmt.Call.{Call}
use Rattle.sql_subset.specs.declared.stmt.Stmt.TheVariants as statement
use Rattle.resolution.specs.Results.{Gives}
use Rattle.group_catalog.specs.Catalogs.{groups_in}
use Rattle.cache_tier.specs.Called.{called, called_drain, called_flag, called_refresh, refreshed_group, spelt_group}
use Rattle.cache_tier.specs.declared.called.Called.{Called}
use Rattle.cache_tier.specs.declared.reply.Last.TheVariants.{Done, No}
use Rattle.cache_tier.specs.declared.reply.Reply.{Reply}
use Rattle.cache_tier.specs.Groups.{Group}
use Rattle.cache_tier.specs.Order.{broken_by_name, first_broken, refusal}
use Rattle.cache_tier.specs.Rules.{named, rule_in}
use Rattle.cache_tier.specs.Sets.{RefreshesIfShown, is_in_set, set_size}
use Rattle.cache_tier.specs.Steps.{DoesCalled, DoesStatement, RefreshesCalled}
use Rattle.cache_tier.specs.TierStates.{Session, Tier}
use Rattle.cache_tier.specs.Worlds.{Tries, Unless, World, only}
use Rattle.stored_tier.specs.declared.tier.Tier.{Tier as Stored}
use Rattle.outside.specs.Holding.{Held}
use Rattle.propagators.specs.Certainty.{KeepsCertain}
use Rattle.propagators.proofs.CertainLaws.{same_certain}
use Rattle.tier_journal.specs.declared.journal.TierJournal.{TierJournal}
use Rattle.cache_tier.specs.Reading.{Answers}
use Rattle.cache_tier.specs.SessionSteps.{flag_answer}
use Rattle.cache_tier.specs.Worlds.{Follows, Quiet}
use Rattle.stored_tier.specs.Performing.{Executes, Performs, PerformsInOver, PerformsOver, StaysWritten, reply_of}
use Rattle.stored_tier.proofs.OverLaws.{over_here, over_so}
use Rattle.cache_engine.proofs.StillLaws.{over_still, quiet_still, refresh_still, still_on, still_same}
use Rattle.outside.specs.Sites.{SiteState}
use Rattle.stored_tier.specs.Stored.{HasSession, IsStoredAs, without_list}
use Rattle.session_engine.proofs.NamedLaws.{named_seen}

-- what it asks for, beside the groups of the catalog

group_seen : (name : List ℕ) (arguments : List Literal) (o : Option Group) → refreshed_group name arguments (option_map without_list o) ≡ refreshed_group name arguments o
group_seen name arguments None = refl
group_seen name arguments (Some g) = refl

refresh_seen : (t : Stored) (a : Tier) (arguments : List Literal) (o : Option (List ℕ)) → IsStoredAs t a → called_refresh (groups_in t.catalog) arguments o ≡ called_refresh a.groups arguments o
refresh_seen t a arguments None is = refl
refresh_seen t a arguments (Some text) is =
    ap (λ r. cond (is_name text) r (Err (record { code = code.UnknownGroup; detail = detail.NoType })))
    (ap (refreshed_group (folded text) arguments) (named_seen t a (folded text) is) ∙ group_seen (folded text) arguments _)

called_seen : (t : Stored) (a : Tier) (procedure : List ℕ) (arguments : List Literal) → IsStoredAs t a → called (groups_in t.catalog) procedure arguments ≡ called a.groups procedure arguments
called_seen t a procedure arguments is =
    ap (λ r. cond (same_name procedure (codes "TTDRAIN")) (called_drain arguments)
    (cond (same_name procedure (codes "TTCACHEAUTOREFRESH")) r
    (cond (same_name procedure (codes "TTOPTSETFLAG")) (called_flag arguments) (Err (named code.UnknownColumn procedure)))))
    (refresh_seen t a arguments (spelt_group arguments) is)

-- the first broken rule is that of the procedure and its arguments
first_by_name : (o : Option Rule) → first_broken (broken_by_name o) ≡ o
first_by_name None = refl
first_by_name (Some rule) = refl

refusal_is : (t : Stored) (a : Tier) (s : Session) (call : Call) → IsStoredAs t a → refusal a s (statement.Call call) ≡ rule_in (called (groups_in t.catalog) call.procedure call.arguments)
refusal_is t a s call is =
    first_by_name (rule_in (called a.groups call.procedure call.arguments))
    ∙ ap (λ r. rule_in r) (sym (called_seen t a call.procedure call.arguments is))

-- it is refused, or memory was wanting
pub not_called : {D : Type 0} (state : D → SiteState) (possible : D → ℕ → Held → Type 0) (t : Stored) (k : Option TierJournal) (d : D) (id : SessionId) (call : Call) (e : Refused) → Gives (λ (c : Called). c) (called (groups_in t.catalog) call.procedure call.arguments) (Err e) → PerformsInOver state possible t t k k d d id (Executes (statement.Call call)) (Err e)
not_called state possible t k d id call (refused.Rule rule) gives = λ s has.
    over_here state possible t k d (Some (reply_of (Err (refused.Rule rule)))) (λ w w'. Executes (statement.Call call) s w w' (reply_of (Err (refused.Rule rule))))
    (λ w stands.
    inl (subst (λ f. Unless f (DoesStatement s (statement.Call call)) w w (only (No rule))) (sym (refusal_is t w.tier s call stands.stored ∙ ap (λ r. rule_in r) gives)) (refl, refl)))
not_called state possible t k d id call refused.Memory gives = λ s has.
    over_here state possible t k d (Some (reply_of (Err refused.Memory))) (λ w w'. Executes (statement.Call call) s w w' (reply_of (Err refused.Memory))) (λ w stands. inr (refl, refl))

-- what it asks for is done
pub called_done : {D : Type 0} (state : D → SiteState) (possible : D → ℕ → Held → Type 0) (t new : Stored) (k k' : Option TierJournal) (d d' : D) (id : SessionId) (call : Call) (c : Called) (reply : Reply) → called (groups_in t.catalog) call.procedure call.arguments ≡ Ok c
    → ((s : Session) → HasSession t id s → PerformsOver state possible t new k k' d d' (Some reply) (λ w w'. Tries (DoesCalled s (Ok c)) w w' reply)) → PerformsInOver state possible t new k k' d d' id (Executes (statement.Call call)) (Ok reply)
called_done state possible t new k k' d d' id call c reply gives performs = λ s has.
    over_so state possible t new k k' d d' (Some reply) (λ w w'. Tries (DoesCalled s (Ok c)) w w' reply) (λ w w'. Executes (statement.Call call) s w w' reply)
    (λ w w' stands did.
    let free : refusal w.tier s (statement.Call call) ≡ None = refusal_is t w.tier s call stands.stored ∙ ap (λ r. rule_in r) gives in
    let asks : called w.tier.groups call.procedure call.arguments ≡ Ok c = sym (called_seen t w.tier call.procedure call.arguments stands.stored) ∙ gives in
    done w w' s free asks did)
    (performs s has)
  where
    done : (w w' : World) (s : Session) → refusal w.tier s (statement.Call call) ≡ None → called w.tier.groups call.procedure call.arguments ≡ Ok c → Tries (DoesCalled s (Ok c)) w w' reply → Executes (statement.Call call) s w w' reply
    done w w' s free asks (inl does) =
        inl (subst (λ o. Unless o (DoesStatement s (statement.Call call)) w w' reply) (sym free) (subst (λ r. DoesCalled s r w w' reply) (sym asks) does))
    done w w' s free asks (inr wants) = inr wants

-- calls that write nothing to the journal
refreshes_still : (interval : ℕ) (w w' : World) (reply : Reply) → Tries (RefreshesCalled interval) w w' reply → StaysWritten w w'
refreshes_still interval w w' reply (inl p) = still_on w p.mid w' (refresh_still interval w p.mid p.stop p.first) (by p.stop p.next)
  where
    by : (stop : Option Reply) → Follows stop (Answers (λ mid. (mid.tier, only (Done (set_size interval mid.tier))))) p.mid w' reply → StaysWritten p.mid w'
    by None q = still_on p.mid (record p.mid { tier = p.mid.tier }) w' (record { journal = refl; schema = refl }) (still_same (record p.mid { tier = p.mid.tier }) w' q.0)
    by (Some stop) q = still_same p.mid w' q.0
refreshes_still interval w w' reply (inr p) = still_same w w' p.0

pub refresh_over : {D : Type 0} (state : D → SiteState) (possible : D → ℕ → Held → Type 0) (t new : Stored) (k : Option TierJournal) (d d' : D) (interval : ℕ) (reply : Reply) → KeepsCertain state possible d d'
    → Performs t new (state d) (state d') (λ w w'. Tries (RefreshesCalled interval) w w' reply) → PerformsOver state possible t new k k d d' (Some reply) (λ w w'. Tries (RefreshesCalled interval) w w' reply)
refresh_over state possible t new k d d' interval reply certain performs =
    over_still state possible t new k d d' (Some reply) (λ w w'. Tries (RefreshesCalled interval) w w' reply) certain (λ w w' did. refreshes_still interval w w' reply did) performs

pub level_over : {D : Type 0} (state : D → SiteState) (possible : D → ℕ → Held → Type 0) (t new : Stored) (k : Option TierJournal) (d : D) (s : Session) (level : ℕ) (reply : Reply)
    → Performs t new (state d) (state d) (λ w w'. Tries (Quiet (flag_answer w.tier s.label level)) w w' reply) → PerformsOver state possible t new k k d d (Some reply) (λ w w'. Tries (Quiet (flag_answer w.tier s.label level)) w w' reply)
level_over state possible t new k d s level reply performs =
    over_still state possible t new k d d (Some reply) (λ w w'. Tries (Quiet (flag_answer w.tier s.label level)) w w' reply) (same_certain state possible d)
    (λ w w' did. quiet_still None (flag_answer w.tier s.label level) w w' reply refl did) performs

-- ttCacheAutorefresh

-- the call of the bank ended it
pub refresh_ended : (t new : Stored) (before behind : SiteState) (interval : ℕ) (reply : Reply) → Performs t new before behind (λ w w'. RefreshesIfShown interval w w' (Some reply)) → Performs t new before behind (λ w w'. Tries (RefreshesCalled interval) w w' reply)
refresh_ended t new before behind interval reply performs = λ w at stands unshared.
    let it = performs w at stands unshared in
    record {
      world = it.world;
      at = it.at;
      stands = it.stands;
      is = inl (record { mid = it.world; stop = Some reply; first = it.is; next = (refl, refl) });
    }

count_on : (interval n : ℕ) (gs : List Group) → fold (λ (a : ℕ) (g : Group). a + cond (is_in_set interval g) 1 0) n (map without_list gs) ≡ fold (λ (a : ℕ) (g : Group). a + cond (is_in_set interval g) 1 0) n gs
count_on interval n [] = refl
count_on interval n (g ∷ gs) = count_on interval (n + cond (is_in_set interval g) 1 0) gs

count_seen : (interval : ℕ) (gs : List Group) → count_by (is_in_set interval) (map without_list gs) ≡ count_by (is_in_set interval) gs
count_seen interval gs = count_on interval 0 gs

-- the groups of the set are counted
pub refresh_done : (t new : Stored) (before behind : SiteState) (interval : ℕ) (reply : Reply) → reply ≡ only (Done (count_by (is_in_set interval) (groups_in new.catalog)))
    → Performs t new before behind (λ w w'. RefreshesIfShown interval w w' None) → Performs t new before behind (λ w w'. Tries (RefreshesCalled interval) w w' reply)
refresh_done t new before behind interval reply told performs = λ w at stands unshared.
    let it = performs w at stands unshared in
    let size : count_by (is_in_set interval) (groups_in new.catalog) ≡ set_size interval it.world.tier =
    ap (count_by (is_in_set interval)) (sym it.stands.stored.groups) ∙ count_seen interval it.world.tier.groups in
    record {
      world = it.world;
      at = it.at;
      stands = it.stands;
      is = inl (record { mid = it.world; stop = None; first = it.is; next = (refl, told ∙ ap (λ n. only (Done n)) size) });
    }
