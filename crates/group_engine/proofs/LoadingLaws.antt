-- LOAD and REFRESH, from what they name to what they do.
use Rattle.std.proofs.Common.{◌≡◌, ℕ, Bool, true, false, inl, inr, Option, Some, None, Result, Ok, Err, [], slice_get, refl, sym, ap, subst, ◌∙◌}
use Rattle.std.specs.Bool.{MatchBool}
use Rattle.row_types.specs.declared.rule.Refused.{Refused}
use Rattle.row_types.specs.declared.rule.Refused.TheVariants as refused
use Rattle.tier_base.specs.declared.number.SessionId.{SessionId}
use Rattle.outside.specs.Others.{is_shared}
use Rattle.sql_subset.specs.declared.stmt.Load.{Load}
use Rattle.cache_tier.specs.declared.reply.Reply.{Reply}
use Rattle.cache_tier.specs.Groups.{is_read_only, is_table_of, is_writethrough}
use Rattle.cache_tier.specs.JournalSteps.{Flushes, FlushesKept}
use Rattle.cache_tier.specs.LoadSteps.{LoadsReadOnly, LoadsWritethrough}
use Rattle.cache_tier.specs.RefreshSteps.{RefreshesReadOnly, RefreshesWritethrough}
use Rattle.cache_tier.specs.Rotations.{Rotates, RotatesIfLong, is_long}
use Rattle.cache_tier.specs.Rounds.{AppliesAndRotates, Round, RoundIfUnsettled, is_unsettled}
use Rattle.cache_tier.specs.Steps.{DoesStatement}
use Rattle.cache_tier.specs.Targets.{Target}
use Rattle.cache_tier.specs.TierStates.{Session, Tier}
use Rattle.cache_tier.specs.Worlds.{IsUnshared, Passes, StageFollows, Then, Tries, Unless, World}
use Rattle.group_engine.specs.declared.aiming.Aim.{Aim}
use Rattle.stored_tier.specs.declared.tier.Tier.{Tier as Stored}
use Rattle.group_engine.specs.Aiming.{AimsIn, FindsTarget, aimed}
use Rattle.stored_tier.specs.Performing.{Executes, PerformsInOver, PerformsOver, reply_of}
use Rattle.outside.specs.Sites.{SiteState}
use Rattle.group_engine.specs.Taking.{IsGroupAt, IsOfTarget, IsSettledAt, LoadsTarget, PerformsWhere, ReadsMatching, ReadsTried}
use Rattle.group_engine.proofs.ReadyLaws.{kept_here, refused_over, wanting_over}
use Rattle.tier_journal.specs.declared.journal.TierJournal.{TierJournal}
use Rattle.outside.specs.Holding.{Held}

-- a round leaves the groups

pub record KeepsGroups (w m : World) : Type 0 where
  pub groups : m.tier.groups ≡ w.tier.groups
  pub shared : m.shared ≡ w.shared

same_groups : (w m : World) → m ≡ w → KeepsGroups w m
same_groups w m e = record { groups = ap (λ (z : World). z.tier.groups) e; shared = ap (λ (z : World). z.shared) e }

then_groups : (w m v : World) → KeepsGroups w m → KeepsGroups m v → KeepsGroups w v
then_groups w m v one two = record { groups = two.groups ∙ one.groups; shared = two.shared ∙ one.shared }

turned_groups : (w m : World) (stop : Option Reply) → RotatesIfLong w m stop → KeepsGroups w m
turned_groups w m stop is = by (is_long w) is
  where
    by : (b : Bool) → MatchBool b (Rotates w m stop) (Passes w m stop) → KeepsGroups w m
    by true r = record { groups = ap (λ (t : Tier). t.groups) r.tier; shared = r.shared }
    by false r = same_groups w m r.0

flushed_groups : (w m : World) (stop : Option Reply) → Flushes [] w m stop → KeepsGroups w m
flushed_groups w m stop is = by w.journal.kept is
  where
    by : (b : Bool) → MatchBool b (FlushesKept [] w m stop) (Passes w m stop) → KeepsGroups w m
    by true f = record { groups = ap (λ (t : Tier). t.groups) f.tier; shared = f.shared }
    by false f = same_groups w m f.0

applied_groups : (w m : World) (end : Option Reply) → AppliesAndRotates w m end → KeepsGroups w m
applied_groups w m end next =
    then_groups w next.mid m (record { groups = ap (λ (t : Tier). t.groups) next.applies.tier; shared = next.applies.shared }) (turned_groups next.mid m next.turned next.rotates)

round_groups : (w m : World) → Round w m None → KeepsGroups w m
round_groups w m r = then_groups w r.mid m (flushed_groups w r.mid r.stop r.first) (by r.stop r.next)
  where
    by : (stop : Option Reply) → StageFollows stop AppliesAndRotates r.mid m None → KeepsGroups r.mid m
    by None next = applied_groups r.mid m None next
    by (Some reply) next = same_groups r.mid m next.0

pub round_keeps : (w m : World) → RoundIfUnsettled w m None → KeepsGroups w m
round_keeps w m r = by (is_unsettled w) r
  where
    by : (b : Bool) → MatchBool b (Round w m None) (Passes w m None) → KeepsGroups w m
    by true r = round_groups w m r
    by false r = same_groups w m r.0

module _ {D : Type 0} (state : D → SiteState) (possible : D → ℕ → Held → Type 0) where
  -- behind the round
  pub behind_round : (old settled new : Stored) (k km k' : Option TierJournal) (d dm d' : D) (place : ℕ) (x : Target) (refreshes : Bool) (reply : Reply) → PerformsOver state possible old settled k km d dm None (λ w w'. RoundIfUnsettled w w' None) → settled.unsettled.items ≡ []
      → PerformsWhere (IsSettledAt place x.group) state possible settled new km k' dm d' (Some reply) (λ w w'. ReadsMatching refreshes x w w' reply)
      → PerformsWhere (IsGroupAt place x.group) state possible old new k k' d d' (Some reply) (λ w w'. Then RoundIfUnsettled (ReadsMatching refreshes x) w w' reply)
  behind_round old settled new k km k' d dm d' place x refreshes reply rounds none reads w at stands apart keeps there =
      let first = rounds w at stands apart keeps in
      let stood = first.stands refl in
      let m : World = first.world in
      let same = round_keeps w m first.is in
      let apart_then : IsUnshared m = (λ t e. ap (λ gs. is_table_of is_writethrough gs t) same.groups ∙ apart t (ap (λ l. is_shared l t) (sym same.shared) ∙ e)) in
      let second = reads m first.at stood apart_then (first.keeps.over refl) (record { there = ap (λ gs. slice_get gs place) same.groups ∙ there; settled = stood.stored.unsettled ∙ none }) in
      record { world = second.world; at = second.at; is = record { mid = m; stop = None; first = first.is; next = second.is }; stands = second.stands; keeps = second.keeps }

  -- the round ended the line
  pub round_ended : (old new : Stored) (k k' : Option TierJournal) (d d' : D) (place : ℕ) (x : Target) (refreshes : Bool) (reply : Reply) → PerformsOver state possible old new k k' d d' (Some reply) (λ w w'. RoundIfUnsettled w w' (Some reply))
      → PerformsWhere (IsGroupAt place x.group) state possible old new k k' d d' (Some reply) (λ w w'. Then RoundIfUnsettled (ReadsMatching refreshes x) w w' reply)
  round_ended old new k k' d d' place x refreshes reply rounds w at stands apart keeps there =
      let first = rounds w at stands apart keeps in
      record { world = first.world; at = first.at; is = record { mid = first.world; stop = Some reply; first = first.is; next = (refl, refl) }; stands = first.stands; keeps = first.keeps }

-- what is aimed at

pub aimed_whole : {D : Type 0} (state : D → SiteState) (possible : D → ℕ → Held → Type 0) (old new : Stored) (k k' : Option TierJournal) (d d' : D) (place : ℕ) (x : Target) (refreshes : Bool) (reply : Reply) → is_read_only x.group ≡ true
    → PerformsWhere (IsGroupAt place x.group) state possible old new k k' d d' (Some reply) (λ w w'. Tries (ReadsTried refreshes x) w w' reply)
    → PerformsWhere (IsGroupAt place x.group) state possible old new k k' d d' (Some reply) (λ w w'. Tries (LoadsTarget refreshes x) w w' reply)
aimed_whole state possible old new k k' d d' place x true reply reads does w at stands apart keeps there =
    let it = does w at stands apart keeps there in
    record { world = it.world; at = it.at; stands = it.stands; keeps = it.keeps; is = subst (λ b. Tries (λ v v' r. MatchBool b (RefreshesReadOnly x v v' r) (RefreshesWritethrough x v v' r)) w it.world reply) (sym reads) it.is }
aimed_whole state possible old new k k' d d' place x false reply reads does w at stands apart keeps there =
    let it = does w at stands apart keeps there in
    record { world = it.world; at = it.at; stands = it.stands; keeps = it.keeps; is = subst (λ b. Tries (λ v v' r. MatchBool b (LoadsReadOnly x v v' r) (LoadsWritethrough x v v' r)) w it.world reply) (sym reads) it.is }

pub aimed_behind : {D : Type 0} (state : D → SiteState) (possible : D → ℕ → Held → Type 0) (old new : Stored) (k k' : Option TierJournal) (d d' : D) (place : ℕ) (x : Target) (refreshes : Bool) (reply : Reply) → is_read_only x.group ≡ false
    → PerformsWhere (IsGroupAt place x.group) state possible old new k k' d d' (Some reply) (λ w w'. Then RoundIfUnsettled (ReadsMatching refreshes x) w w' reply)
    → PerformsWhere (IsGroupAt place x.group) state possible old new k k' d d' (Some reply) (λ w w'. Tries (LoadsTarget refreshes x) w w' reply)
aimed_behind state possible old new k k' d d' place x true reply writes does w at stands apart keeps there =
    let it = does w at stands apart keeps there in
    record { world = it.world; at = it.at; stands = it.stands; keeps = it.keeps; is = inl (subst (λ b. MatchBool b (RefreshesReadOnly x w it.world reply) (RefreshesWritethrough x w it.world reply)) (sym writes) it.is) }
aimed_behind state possible old new k k' d d' place x false reply writes does w at stands apart keeps there =
    let it = does w at stands apart keeps there in
    record { world = it.world; at = it.at; stands = it.stands; keeps = it.keeps; is = inl (subst (λ b. MatchBool b (LoadsReadOnly x w it.world reply) (LoadsWritethrough x w it.world reply)) (sym writes) it.is) }

-- what refuses the statement

pub not_aimed : {D : Type 0} (state : D → SiteState) (possible : D → ℕ → Held → Type 0) (t : Stored) (k : Option TierJournal) (d : D) (id : SessionId) (refreshes : Bool) (load : Load) (e : Refused) → AimsIn t id refreshes load (Err e) → PerformsInOver state possible t t k k d d id (Executes (aimed refreshes load)) (Err e)
not_aimed state possible t k d id refreshes load (refused.Rule rule) aims = refused_over state possible t k d id (aimed refreshes load) rule (λ s w has is. aims w.tier s is has)
not_aimed state possible t k d id refreshes load refused.Memory aims = wanting_over state possible t t k k d id (aimed refreshes load) (kept_here k) (λ w stands. stands)

-- what the statement does

does_so : (w w' : World) (s : Session) (refreshes : Bool) (load : Load) (aim : Aim) (f : FindsTarget w.tier s refreshes load aim) (reply : Reply)
    → Tries (LoadsTarget refreshes (record { place = aim.place; group = f.group; filter = aim.which.filter; id = load.which.id })) w w' reply → Executes (aimed refreshes load) s w w' reply
does_so w w' s true load aim f reply (inl d) =
    inl (subst (λ o. Unless o (DoesStatement s (aimed true load)) w w' reply) (sym f.free) (record { target = record { place = aim.place; group = f.group; filter = aim.which.filter; id = load.which.id }; place = f.place; group = f.there; filter = f.is.filter; id = refl; does = d }))
does_so w w' s false load aim f reply (inl d) =
    inl (subst (λ o. Unless o (DoesStatement s (aimed false load)) w w' reply) (sym f.free) (record { target = record { place = aim.place; group = f.group; filter = aim.which.filter; id = load.which.id }; place = f.place; group = f.there; filter = f.is.filter; id = refl; does = d }))
does_so w w' s true load aim f reply (inr m) = inr m
does_so w w' s false load aim f reply (inr m) = inr m

pub loaded : {D : Type 0} (state : D → SiteState) (possible : D → ℕ → Held → Type 0) (old new : Stored) (k k' : Option TierJournal) (d d' : D) (id : SessionId) (refreshes : Bool) (load : Load) (aim : Aim) (result : Result Reply Refused) → AimsIn old id refreshes load (Ok aim)
    → ((x : Target) → IsOfTarget x aim.place aim.which → is_read_only x.group ≡ aim.read_only → PerformsWhere (IsGroupAt aim.place x.group) state possible old new k k' d d' (Some (reply_of result)) (λ w w'. Tries (LoadsTarget refreshes x) w w' (reply_of result)))
    → PerformsInOver state possible old new k k' d d' id (Executes (aimed refreshes load)) result
loaded state possible old new k k' d d' id refreshes load aim result aims loads s has w at stands apart keeps =
    let f = aims w.tier s stands.stored has in
    let it = loads (record { place = aim.place; group = f.group; filter = aim.which.filter; id = load.which.id }) (record { place = refl; filter = refl; id = f.is.id }) f.kind w at stands apart keeps f.there in
    record { world = it.world; at = it.at; stands = it.stands; keeps = it.keeps; is = does_so w it.world s refreshes load aim f (reply_of result) it.is }
