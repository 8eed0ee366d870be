-- LOAD and REFRESH of a READONLY group, and the note that a refresh of its set was tried.
use Rattle.std.proofs.Common.{◌≡◌, ℕ, Bool, true, false, not, Option, Some, Result, Ok, Err, slice_get, refl, sym, ap, subst, ◌∙◌, inl, inr, ⊎_elim}
use Rattle.std.specs.Bool.{MatchBool}
use Rattle.sql_subset.specs.declared.stmt.RefreshState.TheVariants.{Off}
use Rattle.outside.specs.declared.fault.BankError.{BankError}
use Rattle.outside.specs.Holding.{Held}
use Rattle.outside.specs.Sites.{SiteState}
use Rattle.tier_journal.specs.Drafts.{StaysKept}
use Rattle.row_types.specs.declared.rule.Refused.{Refused}
use Rattle.row_types.specs.declared.rule.Refused.TheVariants as refused
use Rattle.tier_journal.specs.declared.journal.TierJournal.{TierJournal}
use Rattle.tier_journal.proofs.WayLaws.{kept_unless}
use Rattle.group_catalog.specs.Catalogs.{groups_in}
use Rattle.group_catalog.specs.declared.which.ResolvedWhich.{ResolvedWhich}
use Rattle.cache_tier.specs.declared.reply.Reply.{Reply}
use Rattle.cache_tier.specs.Groups.{Group, is_explicit, is_read_only}
use Rattle.cache_tier.specs.Reading.{FollowsAt, TellsPosition}
use Rattle.cache_tier.specs.Sets.{alone, loaded_with, of_set}
use Rattle.cache_tier.specs.Targets.{Settles, Target, load_entries, whole_answer}
use Rattle.cache_tier.specs.TierStates.{refresh_tried}
use Rattle.cache_tier.specs.Worlds.{Part, Tries, World}
use Rattle.stored_tier.specs.declared.tier.Tier.{Tier as Stored}
use Rattle.stored_tier.specs.Performing.{StandsFor, reply_of}
use Rattle.stored_tier.specs.Refreshing.{is_off}
use Rattle.stored_tier.specs.Stored.{without_list}
use Rattle.stored_tier.proofs.ListLaws.{group_kept}
use Rattle.stored_tier.proofs.OverLaws.{keeps_stays, keeps_tier}
use Rattle.group_engine.specs.Loaded.{IsDynamicAt, IsExplicitAt, IsReadyToLoad, LoadsWhole, ReadsWhole}
use Rattle.group_engine.specs.declared.ready.Ready.{Ready}
use Rattle.group_engine.specs.Ready.{IsReadyFor}
use Rattle.group_engine.specs.Taking.{IsGroupAt, IsOfTarget, LoadsNoted, PerformsWhere, ReadsDynamic, ReadsNoted, ReadsTried, ShowsAtPosition, TakesAtPosition}
use Rattle.group_engine.proofs.GroupRows.{same_there}
use Rattle.group_engine.proofs.WholeLaws.{follows_so, one_call, tried_alone, tried_set, with_alone, with_set}

-- an explicit group
noted_whole : (x : Target) (place : ℕ) (refreshes : Bool) (w w' : World) (reply : Reply) → x.place ≡ place → is_explicit x.group ≡ true → ReadsWhole place x.group w w' reply → ReadsNoted refreshes x w w' reply
noted_whole x place refreshes w w' reply place_is explicit r = record {
  result = r.told;
  mid = r.mid;
  call = r.call;
  tier = r.tier;
  goes_on = follows_so x place x.group place_is refl explicit (TakesAtPosition refreshes x) r.told r.mid w' reply r.goes_on;
}

-- a dynamic one
noted_dynamic : (x : Target) (refreshes : Bool) (w w' : World) (reply : Reply) → is_explicit x.group ≡ false → ReadsDynamic refreshes x w w' reply → ReadsNoted refreshes x w w' reply
noted_dynamic x refreshes w w' reply dynamic r = record { result = r.result; mid = r.mid; call = r.call; tier = r.tier; goes_on = by r.result r.goes_on }
  where
    by : (told : Result ℕ BankError) → FollowsAt told (TakesAtPosition refreshes x) r.mid w' reply → FollowsAt told (ShowsAtPosition refreshes x) r.mid w' reply
    by (Err e) f = f
    by (Ok n) f = ⊎_elim
        (λ s. inl (subst (λ b. MatchBool b (Settles x (whole_answer x n) r.mid w' reply) (TakesAtPosition refreshes x n r.mid w' reply)) (sym dynamic) s))
        (λ m. inr m) f

module _ {D : Type 0} (state : D → SiteState) (possible : D → ℕ → Held → Type 0) (old new : Stored) (k k' : Option TierJournal) (d d' : D) (place : ℕ) (which : ResolvedWhich) (refreshes : Bool) (reply : Reply) where
  pub whole_noted : (chosen : Rattle.cache_tier.specs.Sets.Choice) → IsExplicitAt (groups_in old.catalog) place → LoadsWhole state possible old new k k' d d' place chosen reply → LoadsNoted state possible old new k k' d d' place which refreshes chosen reply
  whole_noted chosen explicit_at loads x of reads chosen_is w at stands apart keeps there =
      let explicit : is_explicit x.group ≡ true = explicit_at (without_list x.group) (group_kept old w.tier place x.group stands.stored there) in
      let p = loads w x.group at stands apart keeps there reads chosen_is in
      record { world = p.world; at = p.at; is = noted_whole x place refreshes w p.world reply of.place explicit p.is; stands = p.stands; keeps = p.keeps }

  pub dynamic_noted : (chosen : Rattle.cache_tier.specs.Sets.Choice) → IsDynamicAt (groups_in old.catalog) place
      → ((x : Target) → IsOfTarget x place which → is_read_only x.group ≡ true → chosen ≡ loaded_with x.group place → PerformsWhere (IsGroupAt place x.group) state possible old new k k' d d' (Some reply) (λ w w'. ReadsDynamic refreshes x w w' reply))
      → LoadsNoted state possible old new k k' d d' place which refreshes chosen reply
  dynamic_noted chosen dynamic_at does x of reads chosen_is w at stands apart keeps there =
      let dynamic : is_explicit x.group ≡ false = ap not (dynamic_at (without_list x.group) (group_kept old w.tier place x.group stands.stored there)) in
      let p = does x of reads chosen_is w at stands apart keeps there in
      record { world = p.world; at = p.at; is = noted_dynamic x refreshes w p.world reply dynamic p.is; stands = p.stands; keeps = p.keeps }

  -- the group as it is stored
  group_there : (seen g : Group) (w : World) → slice_get (groups_in old.catalog) place ≡ Some seen → StandsFor old w → slice_get w.tier.groups place ≡ Some g → without_list g ≡ seen
  group_there seen g w at stands there = same_there (groups_in old.catalog) place (without_list g) seen (group_kept old w.tier place g stands.stored there) at

  -- it is refreshed alone
  pub tried_one : (seen : Group) → slice_get (groups_in old.catalog) place ≡ Some seen → seen.state ≡ Off → LoadsNoted state possible old new k k' d d' place which refreshes (alone place) reply
      → (x : Target) → IsOfTarget x place which → is_read_only x.group ≡ true → PerformsWhere (IsGroupAt place x.group) state possible old new k k' d d' (Some reply) (λ w w'. Tries (ReadsTried refreshes x) w w' reply)
  tried_one seen at off loads x of reads w at_w stands apart keeps there =
      let is = group_there seen x.group w at stands there in
      let off_there : x.group.state ≡ Off = ap (λ (y : Group). y.state) is ∙ off in
      let p = loads x of reads (with_alone x.group place off_there) w at_w stands apart keeps there in
      let r = p.is in
      record {
        world = p.world;
        at = p.at;
        is = inl (record { result = r.result; mid = r.mid; call = r.call; tier = r.tier ∙ tried_alone x.group w.tier off_there; goes_on = r.goes_on });
        stands = p.stands;
        keeps = p.keeps;
      }

  -- or with its set, which was noted
  pub tried_joined : (noted : Stored) (seen : Group) → slice_get (groups_in old.catalog) place ≡ Some seen → is_off seen.state ≡ false → ((w : World) → StandsFor old w → StandsFor noted (record w { tier = refresh_tried seen.def.interval w.tier }))
      → LoadsNoted state possible noted new k k' d d' place which refreshes (of_set seen.def.interval (Some place)) reply
      → (x : Target) → IsOfTarget x place which → is_read_only x.group ≡ true → PerformsWhere (IsGroupAt place x.group) state possible old new k k' d d' (Some reply) (λ w w'. Tries (ReadsTried refreshes x) w w' reply)
  tried_joined noted seen at on notes loads x of reads w at_w stands apart keeps there =
      let is = group_there seen x.group w at stands there in
      let on_there : is_off x.group.state ≡ false = ap (λ (y : Group). is_off y.state) is ∙ on in
      let interval : x.group.def.interval ≡ seen.def.interval = ap (λ (y : Group). y.def.interval) is in
      let p = loads x of reads (ap (λ i. of_set i (Some place)) (sym interval) ∙ with_set x.group place on_there) (record w { tier = refresh_tried seen.def.interval w.tier })
      (record { there = at_w.there; told = at_w.told; history = at_w.history; faults = at_w.faults; moment = at_w.moment; shared = at_w.shared }) (notes w stands) apart (keeps_tier state possible d k w (refresh_tried seen.def.interval w.tier) refl keeps) there in
      let r = p.is in
      record {
        world = p.world;
        at = p.at;
        is = inl (record { result = r.result; mid = r.mid; call = one_call (TellsPosition r.result) w r.mid (refresh_tried seen.def.interval w.tier) r.call; tier = r.tier ∙ ap (λ i. refresh_tried i w.tier) (sym interval) ∙ tried_set x.group w.tier on_there; goes_on = r.goes_on });
        stands = p.stands;
        keeps = p.keeps;
      }

-- memory was wanting
pub tried_wanting : {D : Type 0} (state : D → SiteState) (possible : D → ℕ → Held → Type 0) (t new : Stored) (k k' : Option TierJournal) (d : D) (place : ℕ) (x : Target) (part : Part) (e : Refused) → StaysKept k k' → ((w : World) → StandsFor t w → StandsFor new w) → e ≡ refused.Memory
    → PerformsWhere (IsGroupAt place x.group) state possible t new k k' d d (Some (reply_of (Err e))) (λ w w'. Tries part w w' (reply_of (Err e)))
tried_wanting state possible t new k k' d place x part e stays still is w at stands apart keeps there = record {
  world = w;
  at = at;
  is = inr (refl, ap (λ y. reply_of (Err y)) is);
  stands = λ whole. still w stands;
  keeps = kept_unless (keeps_stays state possible d k k' w stays keeps);
}

-- with what was made ready
pub where_moved : (P : World → Type 0) {D : Type 0} (state : D → SiteState) (possible : D → ℕ → Held → Type 0) (old new : Stored) (k mid k' : Option TierJournal) (d d' : D) (stop : Option Reply) (does : World → World → Type 0) → StaysKept k mid → PerformsWhere P state possible old new mid k' d d' stop does → PerformsWhere P state possible old new k k' d d' stop does
where_moved P state possible old new k mid k' d d' stop does stays performs w at stands apart keeps here = performs w at stands apart (keeps_stays state possible d k mid w stays keeps) here

-- what was made ready, behind a call
pub ready_read_so : (t : Stored) (w mid : World) (k : Option TierJournal) (place : ℕ) (g : Group) (ready : Ready) → StandsFor t w → mid.tier ≡ w.tier → slice_get w.tier.groups place ≡ Some g → IsReadyToLoad (groups_in t.catalog) k place ready → IsReadyFor mid.tier.schema k ready (load_entries g)
ready_read_so t w mid k place g ready stands same there is = is mid.tier.schema (without_list g) (group_kept t w.tier place g stands.stored there)
