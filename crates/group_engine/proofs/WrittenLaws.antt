-- LOAD and REFRESH of a writethrough group, whatever came of the read.
use Rattle.std.proofs.Common.{◌≡◌, ◌≤◌, ℕ, Bool, true, Option, Some, Result, Ok, Err, List, slice_get, sym, ap, subst, ◌∙◌}
use Rattle.row_types.specs.declared.rule.Refused.{Refused}
use Rattle.row_types.specs.declared.rule.Refused.TheVariants as refused
use Rattle.tier_base.specs.declared.number.TableId.{TableId}
use Rattle.indexed_rows.proofs.MapLaws.{slice_get_map}
use Rattle.outside.specs.Calls as site
use Rattle.outside.specs.Console.{TakesSnapshot}
use Rattle.outside.specs.Holding.{Held}
use Rattle.outside.specs.declared.site.Snapshot.{Snapshot}
use Rattle.group_catalog.specs.Catalogs.{groups_in}
use Rattle.group_catalog.specs.declared.which.ResolvedWhich.{ResolvedWhich}
use Rattle.cache_tier.specs.declared.reply.Reply.{Reply}
use Rattle.cache_tier.specs.Groups.{Group, is_writethrough}
use Rattle.cache_tier.specs.Targets.{Target, load_entries}
use Rattle.cache_tier.specs.Worlds.{World}
use Rattle.stored_tier.specs.declared.tier.Tier.{Tier as Stored}
use Rattle.stored_tier.specs.Performing.{StandsFor, reply_of}
use Rattle.outside.specs.Sites.{SiteState}
use Rattle.stored_tier.specs.Stored.{IsSound, without_list}
use Rattle.group_engine.specs.Taking.{AsksTree, IsOfTarget, IsSettledAt, JudgesFull, MayTake, PerformsWhere, ReadsMatching, TakesMatching}
use Rattle.stored_tier.proofs.OverLaws.{keeps_stays}
use Rattle.group_engine.specs.declared.ready.Ready.{Ready}
use Rattle.group_engine.specs.Loaded.{IsReadyToLoad}
use Rattle.group_engine.specs.Ready.{AnswersBehind, IsReadyFor, is_full_ready}
use Rattle.tier_journal.specs.Drafts.{StaysKept}
use Rattle.propagators.specs.Certainty.{KeepsCertain}
use Rattle.tier_journal.specs.declared.journal.TierJournal.{TierJournal}
use Rattle.group_engine.proofs.TakenParts.{matching_sound}
use Rattle.group_engine.proofs.TakenLaws.{full_so, reads_wanting, refused_so, took_so}

-- what was made ready for the group, in the worlds
ready_for : (t : Stored) (w : World) (k : Option TierJournal) (place : ℕ) (g : Group) (ready : Ready) → StandsFor t w → IsReadyToLoad (groups_in t.catalog) k place ready → slice_get w.tier.groups place ≡ Some g → IsReadyFor w.tier.schema k ready (load_entries g)
ready_for t w k place g ready stands of there = of w.tier.schema (without_list g) (ap (λ gs. slice_get gs place) (sym stands.stored.groups) ∙ slice_get_map without_list w.tier.groups place g there)

module _ {D : Type 0} (state : D → SiteState) (possible : D → ℕ → Held → Type 0) (old : Stored) (k : Option TierJournal) (d d' : D) (place : ℕ) (which : ResolvedWhich) (refreshes : Bool) (asked : List TableId) (snapshot : Snapshot) (sound : IsSound old) (asks : AsksTree old place asked) (may : MayTake old place refreshes)
    (told : site.Told (state d).held (state d').held (site.BankCall (state d).shared (TakesSnapshot asked (Ok snapshot)))) (faults : (state d).bank_faults ≤ (state d').bank_faults) (moment : (state d).moment ≤ (state d').moment) (shares : (state d').shared ≡ (state d).shared) (certain : KeepsCertain state possible d d') (x : Target) (of : IsOfTarget x place which) (writes : is_writethrough x.group ≡ true) where
  pub read_all : (new : Stored) (k' : Option TierJournal) (last : D) (ready : Ready) (said reply : Reply) → IsReadyToLoad (groups_in old.catalog) k place ready → TakesMatching old new place which refreshes snapshot.tables (Ok said) → AnswersBehind state possible k k' d' last ready said reply
      → PerformsWhere (IsSettledAt place x.group) state possible old new k k' d last (Some reply) (λ w w'. ReadsMatching refreshes x w w' reply)
  read_all new k' last ready said reply is_ready took answers w at stands apart keeps here =
      took_so state possible old k d d' place which refreshes x of writes sound asked asks may snapshot told faults moment shares certain w at stands apart keeps here new said took
      (matching_sound old new place which refreshes snapshot.tables (Ok said) sound took) k' last ready (ready_for old w k place x.group ready stands is_ready here.there) reply answers

  pub read_refused : (new : Stored) (e : Refused) → TakesMatching old new place which refreshes snapshot.tables (Err e) → PerformsWhere (IsSettledAt place x.group) state possible old new k k d d' (Some (reply_of (Err e))) (λ w w'. ReadsMatching refreshes x w w' (reply_of (Err e)))
  read_refused new e took w at stands apart keeps here =
      refused_so state possible old k d d' place which refreshes x of writes sound asked asks may snapshot told faults moment shares certain w at stands apart keeps here new e took

  pub read_full : (ready : Ready) (result : Result Reply Refused) → IsReadyToLoad (groups_in old.catalog) k place ready → is_full_ready ready ≡ true → JudgesFull old place which snapshot.tables result
      → PerformsWhere (IsSettledAt place x.group) state possible old old k k d d' (Some (reply_of result)) (λ w w'. ReadsMatching refreshes x w w' (reply_of result))
  read_full ready result is_ready full judged w at stands apart keeps here =
      full_so state possible old k d d' place which refreshes x of writes sound asked asks may snapshot told faults moment shares certain w at stands apart keeps here ready (ready_for old w k place x.group ready stands is_ready here.there) full result judged

-- with what was made ready
pub reads_moved : {D : Type 0} (state : D → SiteState) (possible : D → ℕ → Held → Type 0) (old new : Stored) (k mid k' : Option TierJournal) (d d' : D) (place : ℕ) (g : Group) (stop : Option Reply) (does : World → World → Type 0) → StaysKept k mid → PerformsWhere (IsSettledAt place g) state possible old new mid k' d d' stop does → PerformsWhere (IsSettledAt place g) state possible old new k k' d d' stop does
reads_moved state possible old new k mid k' d d' place g stop does stays performs w at stands apart keeps here = performs w at stands apart (keeps_stays state possible d k mid w stays keeps) here

pub reads_not_ready : {D : Type 0} (state : D → SiteState) (possible : D → ℕ → Held → Type 0) (t : Stored) (k k' : Option TierJournal) (d : D) (place : ℕ) (x : Target) (refreshes : Bool) (e : Refused) → StaysKept k k' → e ≡ refused.Memory
    → PerformsWhere (IsSettledAt place x.group) state possible t t k k' d d (Some (reply_of (Err e))) (λ w w'. ReadsMatching refreshes x w w' (reply_of (Err e)))
reads_not_ready state possible t k k' d place x refreshes e stays is =
    subst (λ r. PerformsWhere (IsSettledAt place x.group) state possible t t k k' d d (Some (reply_of (Err r))) (λ w w'. ReadsMatching refreshes x w w' (reply_of (Err r)))) (sym is) (reads_wanting state possible t k k' d place x refreshes stays)
