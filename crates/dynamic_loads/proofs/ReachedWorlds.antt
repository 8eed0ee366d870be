-- The bank told an instance, in the worlds at the site.
use Rattle.std.proofs.Common.{◌≡◌, ◌≤◌, ℕ, Option, Some, None, Result, Ok, Err, List, [], ◌++◌, length, take, slice_get, refl, sym, ap, subst, ◌∙◌, inl, inr, arith}
use Rattle.std.proofs.lemmas.List.{append-nil, take-append-le, take_all}
use Rattle.std.specs.declared.alloc.AllocError.{AllocError}
use Rattle.tier_base.specs.declared.code.Code.TheVariants as code
use Rattle.tier_base.specs.declared.number.TableId.{TableId}
use Rattle.table_state.specs.declared.history.Entry.{Entry}
use Rattle.table_state.specs.Histories.{state_of}
use Rattle.table_state.specs.Tables.{TableState}
use Rattle.instances.specs.declared.tree.Tree.{Tree}
use Rattle.outside.specs.Bank.{Grows}
use Rattle.outside.specs.Calls as site
use Rattle.outside.specs.Others.{AreOthers, Around}
use Rattle.outside.specs.Reaching.{Reaches, instance_with}
use Rattle.outside.specs.Sites.{SiteState}
use Rattle.outside.specs.declared.fault.BankError.{BankError}
use Rattle.outside.specs.declared.fault.BankError.TheVariants.{Memory}
use Rattle.outside.specs.declared.site.Instance.{Instance}
use Rattle.outside.specs.declared.site.Reached.{Reached}
use Rattle.group_catalog.specs.Catalogs.{groups_in}
use Rattle.cache_tier.specs.declared.reply.Reply.{Reply}
use Rattle.cache_tier.specs.DynamicLoads.{with_found, with_found_at}
use Rattle.cache_tier.specs.Events.{StaysShown, at_history, with_tier}
use Rattle.cache_tier.specs.Groups.{Group}
use Rattle.cache_tier.specs.Reading.{StageFollowsAt, TellsPosition, backing_at, state_or_none}
use Rattle.cache_tier.specs.Sets.{alone}
use Rattle.cache_tier.specs.Shown.{shown_state}
use Rattle.cache_tier.specs.TierStates.{Tier}
use Rattle.cache_tier.specs.Wants.{Want}
use Rattle.cache_tier.specs.Worlds.{BankCall, Becomes, IsUnshared, World, bank_fault, faulty}
use Rattle.cache_tier.proofs.ChosenGroups.{changed_kept}
use Rattle.cache_tier.proofs.GroupPairs.{same_tables}
use Rattle.cache_tier.proofs.HistoryKeeps.{around_goes_on, others_go_on}
use Rattle.stored_tier.specs.declared.tier.Tier.{Tier as Stored}
use Rattle.stored_tier.specs.Performing.{IsPerformed, StandsFor, StaysWritten}
use Rattle.stored_tier.specs.Sites.{IsAt}
use Rattle.stored_tier.specs.Stored.{IsSound, without_list}
use Rattle.stored_tier.proofs.BankLaws.{TellsBehind, behind, call_behind, told_behind}
use Rattle.stored_tier.proofs.HiddenRows.{hides_later}
use Rattle.stored_tier.proofs.LongerLaws.{read_longer}
use Rattle.stored_tier.proofs.StandingLaws.{performed_behind, performed_here}
use Rattle.dynamic_loads.specs.Bringing.{ReachesInto}
use Rattle.dynamic_loads.specs.Taking.{LeavesInstance, TakesInstance, TakesReached}
use Rattle.dynamic_loads.proofs.FoundRoots.{none_found, root_hidden, told_root}
use Rattle.dynamic_loads.proofs.RootRows.{Row}
use Rattle.dynamic_loads.proofs.TakenLaws.{group_seen_at, nothing_found, room_stands, stands_taken}

-- what is said of the worlds
abbrev pub Says : ℕ → Want → World → Option Reply → World → Type 0
Says place want w stop w' = ReachesInto place want w w' stop × StaysWritten w w'

-- nothing was called, for want of memory

no_call : (w : World) → BankCall (TellsPosition (Err Memory)) w w
no_call w = record {
  history = record { before = []; middle = w.history; behind = []; came_before = tt; own = sym (append-nil (w.history ++ []) ∙ append-nil w.history); came_behind = tt; is = sym (append-nil w.history) };
  journal = refl;
  faults = Prim.omega arith;
  disk = refl;
  moment = Prim.omega arith;
  shared = refl;
}

pub reaches_nothing : (t : Stored) (seen : SiteState) (place : ℕ) (want : Want) (w : World) → IsAt seen w → StandsFor t w → IsPerformed t seen (Says place want w (Some (faulty code.Memory)))
reaches_nothing t seen place want w at stands =
    performed_here t seen w (Says place want w (Some (faulty code.Memory))) at stands
    (record { result = Err Memory; mid = w; call = no_call w; tier = refl; goes_on = (refl, refl) }, record { journal = refl; schema = refl })

-- ---- a call

grows : (tree : Tree) (u : TableId) (key : Row) (result : Result Reached BankError) (a b : List Entry) → Reaches tree u key result a b → Grows [] a b
grows tree u key (Ok reached) a b r = r.0
grows tree u key (Err e) a b r = r

around_weaker : (shared : List TableId) (step other : List Entry → List Entry → Type 0) (old new : List Entry) → ((a b : List Entry) → step a b → other a b) → Around shared step old new → Around shared other old new
around_weaker shared step other old new f a = record {
  before = a.before;
  middle = a.middle;
  behind = a.behind;
  came_before = a.came_before;
  own = f (old ++ a.before) a.middle a.own;
  came_behind = a.came_behind;
  is = a.is;
}

-- the call, as it is told
pub record IsCalled (tree : Tree) (u : TableId) (key : Row) (result : Result Reached BankError) (before after : SiteState) : Type 0 where
  pub told : site.BankTold before after (Reaches tree u key result)
  pub faults : before.bank_faults ≤ after.bank_faults
  pub moment : before.moment ≤ after.moment
  pub shares : after.shared ≡ before.shared

module _ (old : Stored) (tree : Tree) (u : TableId) (key : Row) (result : Result Reached BankError) (before after : SiteState) (called : IsCalled tree u key result before after) (w : World) (at : IsAt before w) (stands : StandsFor old w) (apart : IsUnshared w) where
  now : TellsBehind at.there after.held (site.BankCall before.shared (Reaches tree u key result))
  now = told_behind at.there before.held after.held (site.BankCall before.shared (Reaches tree u key result)) at.told called.told

  abbrev mid : World
  mid = behind w w.tier now.there after

  call : BankCall (Reaches tree u key result) w (behind w w.tier now.there after)
  call = call_behind w w.tier before after now.there (Reaches tree u key result) at now.is called.faults called.moment

  reads : (told : Result ℕ BankError) → ((a b : List Entry) → Reaches tree u key result a b → TellsPosition told a b) → BankCall (TellsPosition told) w (behind w w.tier now.there after)
  reads told tells = record {
    history = around_weaker w.shared (Reaches tree u key result) (TellsPosition told) w.history now.there.history tells call.history;
    journal = call.journal;
    faults = call.faults;
    disk = call.disk;
    moment = call.moment;
    shared = call.shared;
  }

  still : StaysShown w (at_history now.there.history w)
  still = around_goes_on w now.there.history stands.stands apart (around_weaker w.shared (Reaches tree u key result) (Grows []) w.history now.there.history (grows tree u key result) call.history)

  -- the tier stays, but for what is stored
  stays : (new : Stored) (does : World → Type 0) → StandsFor new w → does mid → IsPerformed new after does
  stays new does then is = performed_behind new before after w w.tier now.there does at now.told called.shares then.waits then.stored (then.shows ∙ sym still.same)
      (hides_later new w now.there.history then (read_longer w (Reaches tree u key result) now.there.history (grows tree u key result) call.history)) still.stands is

-- it failed
pub reach_failed : (t : Stored) (tree : Tree) (u : TableId) (key : Row) (e : BankError) (reply : Reply) (before after : SiteState) → IsCalled tree u key (Err e) before after → reply ≡ bank_fault e → (place : ℕ) (want : Want) (w : World) → IsAt before w → StandsFor t w → IsUnshared w
    → IsPerformed t after (Says place want w (Some reply))
reach_failed t tree u key e reply before after called is place want w at stands apart =
    stays t tree u key (Err e) before after called w at stands apart t (Says place want w (Some reply)) stands
    (record { result = Err e; mid = mid t tree u key (Err e) before after called w at stands apart; call = reads t tree u key (Err e) before after called w at stands apart (Err e) (λ a b r. r); tier = refl; goes_on = (refl, ap Some is) }, record { journal = refl; schema = refl })

-- it told
module _ (old : Stored) (sound : IsSound old) (settled : old.unsettled.items ≡ []) (place : ℕ) (want : Want) (seen : Group) (there : slice_get (groups_in old.catalog) place ≡ Some seen) (reached : Reached) (before after : SiteState) (called : IsCalled seen.def.tree want.table want.key (Ok reached) before after)
    (w : World) (at : IsAt before w) (stands : StandsFor old w) (apart : IsUnshared w) where
  abbrev step : List Entry → List Entry → Type 0
  step = Reaches seen.def.tree want.table want.key (Ok reached)

  abbrev now_there : TellsBehind at.there after.held (site.BankCall before.shared (Reaches seen.def.tree want.table want.key (Ok reached)))
  now_there = now old seen.def.tree want.table want.key (Ok reached) before after called w at stands apart

  abbrev later : List Entry
  later = now_there.there.history

  around : Around w.shared (Reaches seen.def.tree want.table want.key (Ok reached)) w.history now_there.there.history
  around = (call old seen.def.tree want.table want.key (Ok reached) before after called w at stands apart).history

  abbrev front : List Entry
  front = w.history ++ around.before

  first : StaysShown w (at_history (w.history ++ around.before) w)
  first = others_go_on w around.before stands.stands apart around.came_before

  -- the world in which it was told
  abbrev then_world : World
  then_world = at_history (w.history ++ around.before) w

  abbrev stands_then : StandsFor old (at_history (w.history ++ around.before) w)
  stands_then = record { stored = stands.stored; shows = stands.shows ∙ sym first.same; hides = hides_later old w (w.history ++ around.before) stands (record { more = around.before; is = refl }); stands = first.stands; waits = stands.waits }

  middle_is : around.middle ≡ w.history ++ around.before
  middle_is = around.own.0 ∙ append-nil (w.history ++ around.before)

  abbrev b : TableState
  b = first.stands.flow.stand.over.backing

  leaves : state_of (w.history ++ around.before) ≡ Some b
  leaves = first.stands.flow.stand.over.leaves

  told : reached.instance ≡ instance_with b seen.def.tree want.table want.key
  told = around.own.2 b (ap state_of middle_is ∙ leaves)

  later_is : later ≡ (w.history ++ around.before) ++ around.behind
  later_is = around.is ∙ ap (λ l. l ++ around.behind) middle_is

  front_is : take reached.position.0 later ≡ w.history ++ around.before
  front_is =
      let long : reached.position.0 ≡ length around.middle = around.own.1 in
      let within : reached.position.0 ≤ length around.middle = Prim.omega (arith, long) in
      let past : length around.middle ≤ reached.position.0 = Prim.omega (arith, long) in
      ap (take reached.position.0) around.is ∙ take-append-le reached.position.0 around.middle around.behind within ∙ take_all reached.position.0 around.middle past ∙ middle_is

  abbrev mid_world : World
  mid_world = behind w w.tier now_there.there after

  backing_is : backing_at mid_world reached.position.0 ≡ b
  backing_is = ap state_or_none (ap state_of front_is ∙ leaves)

  here : (g : Group) × (slice_get w.tier.groups place ≡ Some g) × (without_list g ≡ seen)
  here = group_seen_at old w.tier place seen stands.stored there

  abbrev g : Group
  g = here.0

  told_g : reached.instance ≡ instance_with b g.def.tree want.table want.key
  told_g = told ∙ ap (λ (x : Group). instance_with b x.def.tree want.table want.key) (sym here.2)

  -- the group's tables are as little shared then
  apart_then : IsUnshared (with_tier (with_found_at place b want w.tier) then_world)
  apart_then u e =
      same_tables w.tier.groups (with_found_at place b want w.tier).groups (changed_kept (alone place) (with_found b want) (λ h. record { def = refl; first = refl }) 0 w.tier.groups) u
      ∙ apart u e

  -- the call, and what comes of it
  told_stage : (w' : World) (stop : Option Reply) → StageFollowsAt (Ok reached.position.0) (λ n. Becomes (λ v. with_found_at place (backing_at v n) want v.tier)) mid_world w' stop → ReachesInto place want w w' stop
  told_stage w' stop goes = record {
    result = Ok reached.position.0;
    mid = mid_world;
    call = reads old seen.def.tree want.table want.key (Ok reached) before after called w at stands apart (Ok reached.position.0) (λ a c r. (r.0, r.1));
    tier = refl;
    goes_on = goes;
  }

  -- memory was wanting behind it
  pub wanting_behind : (new : Stored) → StandsFor new w → IsPerformed new after (Says place want w (Some (faulty code.Memory)))
  wanting_behind new then =
      stays old seen.def.tree want.table want.key (Ok reached) before after called w at stands apart new (Says place want w (Some (faulty code.Memory))) then
      (told_stage mid_world (Some (faulty code.Memory)) (inr (refl, refl)), record { journal = refl; schema = refl })

  -- the tier becomes the one with what is found
  found_then : (new : Stored) → StandsFor new (with_tier (with_found_at place b want w.tier) then_world) → IsPerformed new after (Says place want w None)
  found_then new then =
      let T : Tier = with_found_at place b want w.tier in
      let on = others_go_on (with_tier T then_world) around.behind then.stands apart_then (subst (λ l. AreOthers w.shared l around.behind) middle_is around.came_behind) in
      performed_behind new before after w T now_there.there (Says place want w None) at now_there.told called.shares stands.waits then.stored
      (then.shows ∙ sym on.same ∙ ap (λ l. shown_state l T) (sym later_is))
      (hides_later new (with_tier T then_world) now_there.there.history then (record { more = around.behind; is = later_is }))
      (subst (λ l. Rattle.cache_tier.specs.StandingBetween.Stands (with_tier T (at_history l w))) (sym later_is) on.stands)
      (told_stage (behind w T now_there.there after) None (inl (ap (λ s. record mid_world { tier = with_found_at place s want w.tier }) (sym backing_is), refl)), record { journal = refl; schema = refl })

  -- nothing is found
  nothing_then : (new : Stored) → new ≡ old → with_found_at place b want w.tier ≡ w.tier → IsPerformed new after (Says place want w None)
  nothing_then new same none =
      subst (λ n. IsPerformed n after (Says place want w None)) (sym same)
      (found_then old (subst (λ (t : Tier). StandsFor old (with_tier t then_world)) (sym none) stands_then))

  pub reached_none : (new : Stored) → new ≡ old → reached.instance ≡ None → IsPerformed new after (Says place want w None)
  reached_none new same is =
      nothing_then new same (nothing_found place b want w.tier g here.1 (none_found b g want (sym is ∙ told_g)))

  pub reached_some : (new : Stored) (instance : Instance) → reached.instance ≡ Some instance → TakesInstance old new place instance → IsPerformed new after (Says place want w None)
  reached_some new instance is took =
      found_then new
      (stands_taken old new then_world sound stands_then (stands.stored.unsettled ∙ settled) place want instance took g here.1
      (here.2 ∙ Rattle.dynamic_loads.proofs.ListsSet.same_there (groups_in old.catalog) place seen took.group there took.there)
      (sym is ∙ told_g))

  pub reached_hidden : (new : Stored) (instance : Instance) → reached.instance ≡ Some instance → LeavesInstance old new place instance → IsPerformed new after (Says place want w None)
  reached_hidden new instance is left =
      let same : without_list g ≡ left.group = here.2 ∙ Rattle.dynamic_loads.proofs.ListsSet.same_there (groups_in old.catalog) place seen left.group there left.there in
      nothing_then new left.same
      (nothing_found place b want w.tier g here.1
      (root_hidden b g want instance (told_root b g want instance (sym is ∙ told_g)) (ap (λ x. Rattle.dynamic_loads.specs.Taking.is_viewed x instance) same ∙ left.viewed)))

  -- whatever came of it
  pub reached_ok : (new : Stored) → TakesReached old new place reached.instance (Ok tt) → IsPerformed new after (Says place want w None)
  reached_ok new takes = by reached.instance refl takes
    where
      by : (o : Option Instance) → reached.instance ≡ o → TakesReached old new place o (Ok tt) → IsPerformed new after (Says place want w None)
      by None is same = reached_none new same is
      by (Some instance) is (inl took) = reached_some new instance is took
      by (Some instance) is (inr left) = reached_hidden new instance is left

  pub reached_err : (new : Stored) (e : AllocError) → TakesReached old new place reached.instance (Err e) → IsPerformed new after (Says place want w (Some (faulty code.Memory)))
  reached_err new e takes = by reached.instance takes
    where
      by : (o : Option Instance) → TakesReached old new place o (Err e) → IsPerformed new after (Says place want w (Some (faulty code.Memory)))
      by None same = wanting_behind new (subst (λ n. StandsFor n w) (sym same) stands)
      by (Some instance) (inl same) = wanting_behind new (subst (λ n. StandsFor n w) (sym same) stands)
      by (Some instance) (inr gains) = wanting_behind new (room_stands old new place w sound stands gains)
