-- A tier that is opened again: the round, and then its rows.
use Rattle.std.proofs.Common.{◌≡◌, ℕ, suc, Option, Some, None, List, [], ◌∷◌, refl, ap, subst, ◌∙◌}
use Rattle.std.specs.Prelude.{IfErr, Result, Ok, Err}
use Rattle.std.specs.Bool.{MatchBool}
use Rattle.tier_base.specs.declared.code.Code.TheVariants as code
use Rattle.table_state.specs.declared.history.Sealed.{Sealed}
use Rattle.outside.specs.Sites.{SiteState}
use Rattle.outside.specs.declared.fault.BankError.{BankError}
use Rattle.outside.specs.declared.fault.BankError.TheVariants as bank
use Rattle.group_catalog.specs.Catalogs.{groups_in}
use Rattle.cache_tier.specs.declared.reply.Reply.{Reply}
use Rattle.cache_tier.specs.Groups.{Group}
use Rattle.cache_tier.specs.Rounds.{Applies, Wanting, round_stop}
use Rattle.cache_tier.specs.Worlds.{Passes, StageFollows, World, bank_fault, faulty}
use Rattle.recovery.specs.Reopening.{HoldAgain, HoldsAgainAt, Reloads, Reopens, ViewsAgain, is_held_again}
use Rattle.stored_tier.specs.declared.tier.Tier.{Tier as Stored}
use Rattle.stored_tier.specs.Performing.{Performs}
use Rattle.stored_tier.specs.Stored.{IsSound}
use Rattle.reopening.specs.Building.{IsBuilt, IsSettled, SettlesCommits, settled_tier}
use Rattle.reopening.specs.Reloading.{held_again}
use Rattle.reopening.specs.Starting.{DiffersAs, IsOfCall, OpensAgain, Refilled, Refills, ReopensFrom, end_told, fault_of}
use Rattle.reopening.specs.declared.start.ReopenError.{ReopenError}
use Rattle.reopening.specs.declared.start.ReopenError.TheVariants as error
use Rattle.reopening.specs.declared.start.Start.{Start}
use Rattle.reopening.proofs.BuildingLaws.{stands_built}
use Rattle.reopening.proofs.ViewingLaws.{still_viewed}

-- the rows

hold_as : (place : ℕ) (gs hs : List Group) → held_again gs ≡ held_again hs → (v w' : World) (stop : Option Reply) → HoldAgain place gs v w' stop → HoldAgain place hs v w' stop
hold_as place [] [] same v w' stop does = does
hold_as place [] (h ∷ hs) same v w' stop does = cc
hold_as place (g ∷ gs) [] same v w' stop does = cc
hold_as place (g ∷ gs) (h ∷ hs) same v w' stop does =
    let first : is_held_again g ≡ is_held_again h = cc in
    let rest : held_again gs ≡ held_again hs = cc in
    record {
      mid = does.mid;
      stop = does.stop;
      first = subst (λ b. MatchBool b (HoldsAgainAt place v does.mid does.stop) (Passes v does.mid does.stop)) first does.first;
      next = by does.stop (hold_as (suc place) gs hs rest does.mid w' stop) does.next;
    }
  where
    by : (o : Option Reply) → (HoldAgain (suc place) gs does.mid w' stop → HoldAgain (suc place) hs does.mid w' stop) → StageFollows o (HoldAgain (suc place) gs) does.mid w' stop → StageFollows o (HoldAgain (suc place) hs) does.mid w' stop
    by None then x = then x
    by (Some s) then x = x

pub reloaded : (old mid new : Stored) (a b c : SiteState) (stop : Option Reply) → Performs old mid a b (λ w w'. ViewsAgain w w' None) → Performs mid new b c (λ w w'. HoldAgain 0 w.tier.groups w w' stop)
    → Performs old new a c (λ w w'. Reloads w w' stop)
reloaded old mid new a b c stop views holds w at stands apart =
    let v = views w at stands apart in
    let still = still_viewed w v.world None apart v.is in
    let h = holds v.world v.at v.stands still.apart in
    record {
      world = h.world;
      at = h.at;
      stands = h.stands;
      is = record { mid = v.world; stop = None; first = v.is; next = hold_as 0 v.world.tier.groups w.tier.groups still.held v.world h.world stop h.is };
    }

pub reload_stopped : (old new : Stored) (a b : SiteState) (stop : Reply) → Performs old new a b (λ w w'. ViewsAgain w w' (Some stop)) → Performs old new a b (λ w w'. Reloads w w' (Some stop))
reload_stopped old new a b stop views w at stands apart =
    let v = views w at stands apart in
    record { world = v.world; at = v.at; stands = v.stands; is = record { mid = v.world; stop = Some stop; first = v.is; next = (refl, refl) } }

-- the tier with its rows

pub refilled : (old new : Stored) (a b : SiteState) → Performs old new a b (λ w w'. Reloads w w' None) → Refills old a b (Ok new)
refilled old new a b does w at stands apart = does w at stands apart

pub refill_stopped : (old new : Stored) (a b : SiteState) (e : BankError) → Performs old new a b (λ w w'. Reloads w w' (Some (bank_fault e))) → Refills old a b (Err (fault_of e))
refill_stopped old new a b bank.Failed does w at stands apart = let r = does w at stands apart in record { world = r.world; at = r.at; is = r.is }
refill_stopped old new a b bank.Memory does w at stands apart = let r = does w at stands apart in record { world = r.world; at = r.at; is = r.is }

-- the round came to its end early

stopped_with : (w w' : World) (e : ReopenError) → Applies w w' (round_stop w.tier (end_told e)) → Reopens w w' (round_stop w.tier (end_told e))
stopped_with w w' error.Failed does = record { mid = w'; stop = Some (faulty code.BackingFault); first = does; next = (refl, refl) }
stopped_with w w' (error.Differs table key) does = record { mid = w'; stop = round_stop w.tier (end_told (error.Differs table key)); first = does; next = (refl, refl) }
stopped_with w w' error.Memory does = record { mid = w'; stop = Some (faulty code.Memory); first = does; next = (refl, refl) }

pub round_stopped : (start : Start) (left : List Sealed) (before behind : SiteState) (e : ReopenError) → SettlesCommits start.commits.items left before behind (let r : Result (Unit {0}) ReopenError = Err e in r)
    → ReopensFrom start before behind (Err e)
round_stopped start left before behind e settles w at stands apart begins =
    let r = settles w at stands apart begins.unsettled begins.rise in
    record { world = r.world; at = r.at; is = stopped_with w r.world e r.does }

-- memory was wanting for the tier
wanting : (w w' : World) (stop : Option Reply) → Applies w w' stop → Applies w w' (Some (faulty code.Memory))
wanting w w' stop d = record {
  result = Wanting;
  came = d.came;
  left = d.left;
  comes = d.comes;
  tier = d.tier;
  settled = d.settled;
  bank = d.bank;
  unsure = d.unsure;
  all = tt;
  journal = d.journal;
  disk = d.disk;
  moment = d.moment;
  shared = d.shared;
  end = refl;
}

pub not_built : (start : Start) (left : List Sealed) (before behind : SiteState) → SettlesCommits start.commits.items left before behind (let r : Result (Unit {0}) ReopenError = Ok tt in r) → ReopensFrom start before behind (Err error.Memory)
not_built start left before behind settles w at stands apart begins =
    let r = settles w at stands apart begins.unsettled begins.rise in
    record { world = r.world; at = r.at; is = stopped_with w r.world error.Memory (wanting w r.world None r.does) }

-- and then the rows came back
end_same : (left : List Sealed) (w v : World) (e : ReopenError) → v.tier ≡ settled_tier left w.tier → round_stop v.tier (end_told e) ≡ round_stop w.tier (end_told e)
end_same left w v error.Failed is = refl
end_same left w v (error.Differs table key) is = ap (λ a. round_stop a (end_told (error.Differs table key))) is
end_same left w v error.Memory is = refl

pub opened_with : (start : Start) (left : List Sealed) (before mid behind : SiteState) (t : Stored) (result : Result Stored ReopenError) → SettlesCommits start.commits.items left before mid (let r : Result (Unit {0}) ReopenError = Ok tt in r) → left ≡ []
    → IsBuilt t start.schema (groups_in start.catalog) start.next start.now.0 start.pace → IsSound t → Refills t mid behind result → ReopensFrom start before behind result
opened_with start left before mid behind t result settles none built sound refills w at stands apart begins = by result (refills r.world r.at (stands_built start w.tier begins t built sound r.world tier_is r.stands) r.apart)
  where
    r : IsSettled left mid w Rattle.cache_tier.specs.Rounds.Drained
    r = settles w at stands apart begins.unsettled begins.rise

    tier_is : r.world.tier ≡ settled_tier [] w.tier
    tier_is = r.tier ∙ ap (λ l. settled_tier l w.tier) none

    by : (x : Result Stored ReopenError) → Refilled behind r.world x → OpensAgain behind w x
    by (Ok new) did = record { world = did.world; at = did.at; stands = did.stands; is = record { mid = r.world; stop = None; first = r.does; next = did.is } }
    by (Err e) did =
        record {
          world = did.world;
          at = did.at;
          is = record { mid = r.world; stop = None; first = r.does; next = subst (λ s. Reloads r.world did.world s) (end_same left w r.world e r.tier) did.is };
        }

-- WHY A ROW DIFFERS

-- a fault of a call is no row that differs
pub of_call : (e : BankError) → IsOfCall (fault_of e)
of_call bank.Failed = tt
of_call bank.Memory = tt

pub differs_not : (commits : List Sealed) (before behind : SiteState) (result : Result Stored ReopenError) → IfErr result IsOfCall → IfErr result (DiffersAs commits before behind)
differs_not commits before behind (Ok t) of = tt
differs_not commits before behind (Err error.Failed) of = tt
differs_not commits before behind (Err (error.Differs table key)) of = absurd of
differs_not commits before behind (Err error.Memory) of = tt
